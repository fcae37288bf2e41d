-- Lines that end in a chunk, by the index of their LF: the search of the byte machine comes to the first of them that has a byte.
-- Assumes nothing.
use Rattle.std.proofs.Common.{◌≡◌, ℕ, zero, suc, ◌+◌, ◌-◌, ◌<◌, ◌≤◌, Bool, true, false, ◌||◌, eqb, ◌≢◌, ◌⊎◌, List, [], ◌∷◌, ◌++◌, length, get_or, drop, sym, refl, ap, ◌∙◌, subst, ap₂, inl, inr, append-nil, arith, length-append, length-drop, get_or-drop, drop-drop, eqb-true}
use mathlib.Core.Option.{Option, some}
use mathlib.Core.List.{Memᴰ}
use borrow.Author.Tests.{eqb-false}
use Rattle.std.specs.Prelude.{if◌then◌else◌}
use Rattle.digits.proofs.Tests.{or_false, split}
use Rattle.reader.specs.Lines.{LF, CR, first_line, rest, Ended, with_CRLF, with_LF, with_text, Cut}
use Rattle.reader.proofs.Cutting.{cut, cut_unique}
use Rattle.reader.proofs.Feeds.{rest_length, rest_drop}
use Rattle.chunks.specs.Begun.{Begun, nothing, brief, add, counted, ended, unended, seek}
use Rattle.chunks.specs.Helpers.{seek_at}
use Rattle.chunks.specs.First.{EndsAt}
use Rattle.chunks.proofs.Pass.{step_over}
use Rattle.chunks.proofs.InPlace.{has_LF, LF_from, LF_before_rest, line_in, ends_some, ends_none}
use Rattle.digits.proofs.Parts.{none_left}
use Rattle.chunks.proofs.Runs.{ended_has}

-- ---- the first LF from a place on

pub record Feed (chunk : List ℕ) (from e : ℕ) : Type 0 where
  pub after : from ≤ e
  pub inside : e < length chunk
  pub feed : get_or chunk e 0 ≡ LF
  pub none_before : (k : ℕ) → from ≤ k → k < e → get_or chunk k 0 ≢ LF

-- an LF from the place on is no earlier
pub feed_least : {chunk : List ℕ} {from e : ℕ} → Feed chunk from e → (k : ℕ) → from ≤ k → get_or chunk k 0 ≡ LF → e ≤ k
feed_least {e} f k h l = split e k (λ g. g) (λ g. absurd (f.none_before k h g l))

-- no byte of the first line is LF
before_rest : (text : List ℕ) (k : ℕ) → suc k < length text - length (rest text) → get_or text k 0 ≢ LF
unfolding rest
before_rest [] k h = absurd (omega arith)
before_rest (c ∷ text) k h = go (eqb c LF) refl k h (before_rest text)
  where
    go : (b : Bool) → eqb c LF ≡ b → (k : ℕ) → suc k < length (c ∷ text) - length (if b then text else rest text)
        → ((j : ℕ) → suc j < length text - length (rest text) → get_or text j 0 ≢ LF) → get_or (c ∷ text) k 0 ≢ LF
    go true e k h ih = absurd (omega arith)
    go false e zero h ih = eqb-false c LF e
    go false e (suc k) h ih = ih k (omega (arith, rest_length text))

pub record Feeds (chunk : List ℕ) (from : ℕ) : Type 0 where
  pub e : ℕ
  pub at : Feed chunk from e
  pub behind : drop (suc e) chunk ≡ rest (drop from chunk)

module _ (chunk : List ℕ) (from : ℕ) (h : has_LF (drop from chunk) ≡ true) where
  abbrev text : List ℕ
  text = drop from chunk

  abbrev before : ℕ
  before = length text - length (rest text) - 1

  last_is : from + before ≡ length chunk - length (rest text) - 1
  last_is = omega (arith, (LF_before_rest text h).shorter, length-drop from chunk)

  pub feeds : Feeds chunk from
  feeds =
      let b = LF_before_rest text h in
      let s : length text ≡ length chunk - from = length-drop from chunk in
      let l : length (rest text) < length text = b.shorter in
      let j : from + (length text - length (rest text)) ≡ suc (length chunk - length (rest text) - 1) = omega arith in
      record {
        e = length chunk - length (rest text) - 1;
        at = record {
          after = omega arith;
          inside = omega arith;
          feed = ap (λ (k : ℕ). get_or chunk k 0) (sym last_is) ∙ sym (get_or-drop from chunk before 0) ∙ b.feed;
          none_before = λ k g l' q.
              let i : from + (k - from) ≡ k = omega arith in
              before_rest text (k - from) (omega arith) (get_or-drop from chunk (k - from) 0 ∙ ap (λ (x : ℕ). get_or chunk x 0) i ∙ q);
        };
        behind = ap (λ (k : ℕ). drop k chunk) (sym j) ∙ sym (drop-drop (length text - length (rest text)) from chunk) ∙ rest_drop text;
      }

-- ---- lines that end

-- a text after the CR that waits
abbrev pub ahead : Bool → List ℕ → List ℕ
ahead cr text = (if cr then CR ∷ [] else []) ++ text

has_ahead : (cr : Bool) (text : List ℕ) → has_LF (ahead cr text) ≡ has_LF text
unfolding has_LF
has_ahead true text = refl
has_ahead false text = refl

rest_ahead : (cr : Bool) (text : List ℕ) → rest (ahead cr text) ≡ rest text
unfolding rest
rest_ahead true text = refl
rest_ahead false text = refl

has_mem : (l : List ℕ) → has_LF l ≡ true → Memᴰ LF l
unfolding has_LF
has_mem [] h = let z : ◌≡◌ {A = ℕ} 0 1 = cc in absurd (omega arith)
has_mem (c ∷ l) h = go (eqb c LF) refl h (has_mem l)
  where
    go : (b : Bool) → eqb c LF ≡ b → b || has_LF l ≡ true → (has_LF l ≡ true → Memᴰ LF l) → Memᴰ LF (c ∷ l)
    go true e h ih = Memᴰ.head (sym (eqb-true c LF e))
    go false e h ih = Memᴰ.tail (ih h)

-- a cut whose line is ended by an LF, and not by the end of the text
not_open : {line end rest : List ℕ} → Ended line end rest → end ≡ [] → rest ≡ []
not_open with_CRLF e = let z : ◌≡◌ {A = ℕ} 0 1 = cc in absurd (omega arith)
not_open (with_LF h) e = let z : ◌≡◌ {A = ℕ} 0 1 = cc in absurd (omega arith)
not_open with_text e = refl

cut_by_LF : {text line rest : List ℕ} (c : Cut text line rest) → has_LF text ≡ true → c.end ≢ []
cut_by_LF {text} {line} {rest} c h e =
    let w : text ≡ line = c.whole ∙ ap₂ (λ (x : List ℕ) (y : List ℕ). line ++ (x ++ y)) e (not_open c.ended e) ∙ append-nil line in
    c.no_LF (has_mem line (sym (ap has_LF w) ∙ h))

some_length : (l : List ℕ) → l ≢ [] → 0 < length l
some_length [] h = absurd (h refl)
some_length (c ∷ l) h = omega arith

LF_of_cut : {text line rest : List ℕ} (c : Cut text line rest) → c.end ≢ [] → has_LF text ≡ true
LF_of_cut {text} {line} {rest} c h =
    ended_has c.whole c.ended
    (omega (arith, some_length c.end h, ap length c.whole, length-append line (c.end ++ rest), length-append c.end rest))

module _ (chunk : List ℕ) (from : ℕ) (cr : Bool) where
  -- what a line that ends at an index is, and that it ends at the first LF
  pub record Ending (line : List ℕ) (e : ℕ) : Type 0 where
    pub feed_at : Feed chunk from e
    pub line_is : line ≡ first_line (ahead cr (drop from chunk))
    pub behind_is : drop (suc e) chunk ≡ rest (drop from chunk)

  pub ending : {line : List ℕ} {e : ℕ} → EndsAt chunk (ahead cr (drop from chunk)) line e → Ending line e
  ending {line} {e} x =
      let (l, r) = cut_unique x.cut in
      let f = feeds chunk from (sym (has_ahead cr (drop from chunk)) ∙ LF_of_cut x.cut x.by_LF) in
      let d : drop (suc e) chunk ≡ rest (drop from chunk) = r ∙ rest_ahead cr (drop from chunk) in
      let n : length chunk - suc e ≡ length chunk - suc f.e = sym (length-drop (suc e) chunk) ∙ ap length (d ∙ sym f.behind) ∙ length-drop (suc f.e) chunk in
      let same : f.e ≡ e = omega (arith, x.inside, f.at.inside) in
      record { feed_at = subst (Feed chunk from) same f.at; line_is = l; behind_is = d }

  pub ends_there : (f : Feeds chunk from) → has_LF (drop from chunk) ≡ true → EndsAt chunk (ahead cr (drop from chunk)) (first_line (ahead cr (drop from chunk))) f.e
  ends_there f h =
      let c = cut (ahead cr (drop from chunk)) in
      let r : rest (ahead cr (drop from chunk)) ≡ drop (suc f.e) chunk = rest_ahead cr (drop from chunk) ∙ sym f.behind in
      record {
        inside = f.at.inside;
        cut = record {
          end = c.end;
          whole = rw r at c.whole;
          no_LF = c.no_LF;
          ended = rw r at c.ended;
        };
        by_LF = cut_by_LF c (has_ahead cr (drop from chunk) ∙ h);
      }

-- ---- the search with nothing begun

-- where a line can begin: at a place, or directly after an LF from there on
pub data From (chunk : List ℕ) (p : ℕ) : ℕ → Type 0 where
  here : From chunk p p
  later : {i : ℕ} → p ≤ i → get_or chunk i 0 ≡ LF → From chunk p (suc i)

-- a line with a byte that begins there and ends at e
pub record Own (chunk : List ℕ) (p e from : ℕ) (line : List ℕ) : Type 0 where
  pub begins : From chunk p from
  pub ends : EndsAt chunk (drop from chunk) line e
  pub some_byte : line ≢ []

pub from_after : {chunk : List ℕ} {p from : ℕ} → From chunk p from → p ≤ from
from_after here = omega arith
from_after (later h l) = omega arith

-- one end, one beginning
from_least : {chunk : List ℕ} {p from from' e : ℕ} → From chunk p from' → p ≤ from → Feed chunk from e → Feed chunk from' e → from' ≤ from
from_least here h f g = h
from_least {from} (later {i} a l) h f g = split (suc i) from (λ k. k) (λ k. absurd (f.none_before i (omega arith) (omega (arith, g.after)) l))

pub from_one : {chunk : List ℕ} {p from from' e : ℕ} → From chunk p from → From chunk p from' → Feed chunk from e → Feed chunk from' e → from ≡ from'
from_one a b f g = omega (arith, from_least b (from_after a) f g, from_least a (from_after b) g f)

pub no_feed : (text : List ℕ) (start : Option (List ℕ)) (n : ℕ) (b : Begun) → has_LF text ≡ false → (b' : Begun) × (seek start n b text ≡ unended n b')
unfolding seek has_LF
no_feed [] start n b h = (b, refl)
no_feed (c ∷ text) start n b h =
    let (x, y) = or_false (eqb c LF) (has_LF text) h in
    let (b', e) = no_feed text start n (add b c) y in
    (b', step_over start n b c text (eqb-false c LF x) ∙ e)

pub record NoneOwn (chunk : List ℕ) (p n : ℕ) : Type 0 where
  pub no_own : (e from : ℕ) (line : List ℕ) → ¬ Own chunk p e from line
  pub empties : ℕ
  pub held : Begun
  pub sought : seek_at chunk p n ≡ unended empties held

pub record FirstOwn (chunk : List ℕ) (p n : ℕ) : Type 0 where
  pub e : ℕ
  pub from : ℕ
  pub line : List ℕ
  pub own : Own chunk p e from line
  pub least : (e' from' : ℕ) (line' : List ℕ) → Own chunk p e' from' line' → e ≤ e'
  pub empties : ℕ
  pub sought : seek_at chunk p n ≡ ended (some (drop from chunk)) empties (brief line) (drop (suc e) chunk)

abbrev pub Searched : (chunk : List ℕ) (p n : ℕ) → Type 0
Searched chunk p n = NoneOwn chunk p n ⊎ FirstOwn chunk p n

module _ (chunk : List ℕ) where
  own_feed : {p e from : ℕ} {line : List ℕ} → Own chunk p e from line → Feed chunk from e
  own_feed {from} o = (ending chunk from false o.ends).feed_at

  module _ (p n : ℕ) where
    none_there : has_LF (drop p chunk) ≡ false → NoneOwn chunk p n
    none_there h =
        let (b, e) = no_feed (drop p chunk) (some (drop p chunk)) n nothing h in
        record {
          no_own = λ e from line o.
              let f = own_feed o in
              let t : ◌≡◌ {A = Bool} true false = sym (LF_from chunk p e (omega (arith, from_after o.begins, f.after)) f.inside f.feed) ∙ h in
              let z : ◌≡◌ {A = ℕ} 0 1 = cc in omega arith;
          empties = n;
          held = b;
          sought = e;
        }

    module _ (h : has_LF (drop p chunk) ≡ true) where
      f : Feeds chunk p
      f = feeds chunk p h

      one_there : 0 < length (first_line (drop p chunk)) → FirstOwn chunk p n
      one_there l =
          record {
            e = f.e;
            from = p;
            line = first_line (drop p chunk);
            own = record { begins = here; ends = ends_there chunk p false f h; some_byte = λ z. let y = ap length z in omega arith };
            least = λ e from line o. let g = own_feed o in feed_least f.at e (omega (arith, from_after o.begins, g.after)) g.feed;
            empties = n;
            sought = line_in (drop p chunk) (some (drop p chunk)) n h ∙ ends_some (some (drop p chunk)) n (first_line (drop p chunk)) (rest (drop p chunk)) l
                ∙ ap (ended (some (drop p chunk)) n (brief (first_line (drop p chunk)))) (sym f.behind);
          }

      -- an empty line is passed: lines that have a byte begin after it
      module _ (z : length (first_line (drop p chunk)) ≡ 0) where
        onto : {e from : ℕ} {line : List ℕ} → Own chunk (suc f.e) e from line → Own chunk p e from line
        onto o = record { begins = go o.begins; ends = o.ends; some_byte = o.some_byte }
          where
            go : {from : ℕ} → From chunk (suc f.e) from → From chunk p from
            go here = later f.at.after f.at.feed
            go (later {i} a l) = later {i = i} (omega (arith, f.at.after)) l

        back : {e from : ℕ} {line : List ℕ} → Own chunk p e from line → Own chunk (suc f.e) e from line
        back {e} {from} {line} o = record { begins = go o.begins (ending chunk from false o.ends).line_is; ends = o.ends; some_byte = o.some_byte }
          where
            go : {from : ℕ} → From chunk p from → line ≡ first_line (drop from chunk) → From chunk (suc f.e) from
            go here is = absurd (o.some_byte (is ∙ none_left (first_line (drop p chunk)) z))
            go (later {i} a l) is = split i f.e (λ k. let q : f.e ≡ i = omega (arith, feed_least f.at i a l) in rw q here) (λ k. later k l)

        passed : seek_at chunk p n ≡ seek_at chunk (suc f.e) (counted n)
        passed =
            line_in (drop p chunk) (some (drop p chunk)) n h ∙ ends_none (some (drop p chunk)) n (first_line (drop p chunk)) (rest (drop p chunk)) z
            ∙ ap (λ (t : List ℕ). seek (some t) (counted n) nothing t) (sym f.behind)

        passes : Searched chunk (suc f.e) (counted n) → Searched chunk p n
        passes (inl x) = inl (record { no_own = λ e from line o. x.no_own e from line (back o); empties = x.empties; held = x.held; sought = passed ∙ x.sought })
        passes (inr x) =
            inr (record {
              e = x.e;
              from = x.from;
              line = x.line;
              own = onto x.own;
              least = λ e from line o. x.least e from line (back o);
              empties = x.empties;
              sought = passed ∙ x.sought;
            })

    turn : ((p' n' : ℕ) → p < p' → p < length chunk → Searched chunk p' n') → Searched chunk p n
    unfolding f
    turn ih = by_LF (has_LF (drop p chunk)) refl
      where
        by_LF : (b : Bool) → has_LF (drop p chunk) ≡ b → Searched chunk p n
        by_LF false h = inl (none_there h)
        by_LF true h =
            let g : Feed chunk p (feeds chunk p h).e = (feeds chunk p h).at in
            split (length (first_line (drop p chunk))) 0
            (λ z. passes h (omega arith) (ih (suc (feeds chunk p h).e) (counted n) (omega arith) (omega arith)))
            (λ l. inr (one_there h l))

  searched : (fuel p n : ℕ) → length chunk ≤ p + fuel → Searched chunk p n
  searched zero p n h = turn p n (λ p' n' a b. absurd (omega arith))
  searched (suc fuel) p n h = turn p n (λ p' n' a b. searched fuel p' n' (omega arith))

  pub search_from : (p n : ℕ) → Searched chunk p n
  search_from p n = searched (length chunk) p n (omega arith)
