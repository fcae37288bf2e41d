-- What the byte machine finds is the first line that ends in what is left of the chunk and has a byte.
-- Assumes nothing.
use Rattle.std.proofs.Common.{◌≡◌, ℕ, suc, ◌-◌, ◌<◌, ◌≤◌, Bool, true, false, List, [], ◌∷◌, ◌++◌, length, get_or, take, drop, sym, refl, ap, ◌∙◌, ap₂, inl, inr, arith, length-append, length-drop}
use mathlib.Core.Option.{Option, none, some}
use mathlib.Core.List.{foldl}
use Rattle.record.specs.Line.{judge}
use Rattle.digits.proofs.Tests.{split}
use Rattle.reader.specs.Lines.{LF, first_line}
use Rattle.chunks.specs.declared.Chunks.{Chunks}
use Rattle.chunks.specs.declared.Place.{Place}
use Rattle.chunks.specs.declared.Place.TheVariants.{InChunk, InCarry}
use Rattle.chunks.specs.Begun.{Kept, none_kept, Begun, is_empty, push, brief, stands_for, counted, Sought, ended, unended, seek, look}
use Rattle.chunks.specs.Next.{left_out, begun, place}
use Rattle.chunks.specs.Helpers.{seek_at}
use Rattle.chunks.specs.First.{EndsAt, BeginsAt, at_front, after_LF, BegunEarlier, by_used, by_CR, so_far, LineEnding, new_line, older_line, NoLine, FirstLine, FirstUnique}
use Rattle.chunks.proofs.Brief.{judged_full, brief_short, stands_itself, foldl_on, judge_brief}
use Rattle.chunks.proofs.Moved.{short_stands}
use Rattle.chunks.proofs.Waiting.{waiting, pushes_some, brief_empty}
use Rattle.chunks.proofs.InPlace.{has_LF, LF_from, settled, feed_in}
use Rattle.chunks.proofs.Outcomes.{stood_short}
use Rattle.chunks.proofs.Rows.{Sound, sound_begun, sound_nothing}
use Rattle.chunks.proofs.FirstTests.{look_kept, look_cr, look_fresh, none_out, some_line}
use Rattle.chunks.proofs.Ending.{feed_least, Feeds, feeds, ahead, ending, ends_there, From, here, later, Own, from_after, from_one, no_feed, Searched, search_from}

-- ---- what is kept of a line, and the line

pub record AsKept (k : Kept) (line : List ℕ) : Type 0 where
  pub judged : judge (stands_for k) ≡ judge line
  pub whole : length line < 522 → stands_for k ≡ line

pub as_kept : (k : Kept) (more : List ℕ) → Sound k → AsKept (foldl push k more) (stands_for k ++ more)
as_kept k more s = split (length k.bytes) 521 few many
  where
    few : length k.bytes ≤ 521 → AsKept (foldl push k more) (stands_for k ++ more)
    few h =
        let z : k.skipped ≡ 0 = s.none_out (omega arith) in
        let is : brief k.bytes ≡ k = brief_short k.bytes (omega arith) ∙ ap (λ (n : ℕ). record { bytes = k.bytes; skipped = n }) (sym z) in
        let on : foldl push k more ≡ brief (k.bytes ++ more) = sym (foldl_on k.bytes more none_kept ∙ ap (λ (x : Kept). foldl push x more) is) in
        let e : stands_for k ≡ k.bytes = short_stands k h in
        record {
          judged = ap (λ (x : Kept). judge (stands_for x)) on ∙ judge_brief (k.bytes ++ more) ∙ ap (λ (l : List ℕ). judge (l ++ more)) (sym e);
          whole = λ l.
              let n : length (k.bytes ++ more) < 522 = rw e at l in
              ap stands_for (on ∙ brief_short (k.bytes ++ more) (omega arith)) ∙ stands_itself (k.bytes ++ more) ∙ ap (λ (x : List ℕ). x ++ more) (sym e);
        }

    many : 521 < length k.bytes → AsKept (foldl push k more) (stands_for k ++ more)
    many h =
        record {
          judged = judged_full more k (omega (arith, s.short));
          whole = λ l. absurd (omega (arith, stood_short k (omega (arith, length-append (stands_for k) more))));
        }

-- ---- what a line that ends there is

module _ (s : Chunks) (chunk : List ℕ) where
  begins_from : {from : ℕ} → BeginsAt s chunk from → From chunk s.position from
  begins_from (at_front u c) = here
  begins_from (after_LF h l) = later h l

  not_begun : {more : List ℕ} → BegunEarlier s more → s.used ≡ 0 → s.cr ≡ false → ⊥
  not_begun (by_used h) u c = omega arith
  not_begun (by_CR e h) u c = let t : ◌≡◌ {A = Bool} true false = sym e ∙ c in let z : ◌≡◌ {A = ℕ} 0 1 = cc in omega arith

  -- where it begins if something is begun
  begins_later : {from : ℕ} {more : List ℕ} → BeginsAt s chunk from → BegunEarlier s more → (i : ℕ) × (s.position ≤ i) × (get_or chunk i 0 ≡ LF) × (from ≡ suc i)
  begins_later (at_front u c) b = absurd (not_begun b u c)
  begins_later (after_LF {i} h l) b = (i, h, l, refl)

  -- its LF stands in what is left
  pub record LFLeft (e : ℕ) : Type 0 where
    pub left : s.position ≤ e
    pub inside : e < length chunk
    pub feed : get_or chunk e 0 ≡ LF

  pub line_LF : {carry : List ℕ} {e : ℕ} {line : List ℕ} {lies : Place} → LineEnding s chunk carry e line lies → LFLeft e
  line_LF (new_line {from} b x h) =
      let f = (ending chunk from false x).feed_at in
      record { left = omega (arith, from_after (begins_from b), f.after); inside = f.inside; feed = f.feed }
  line_LF (older_line b x) = let f = (ending chunk s.position s.cr x).feed_at in record { left = f.after; inside = f.inside; feed = f.feed }

  -- no LF ends both a line that begins in the chunk and an older one
  not_both : {e : ℕ} {line more : List ℕ} (from : ℕ) → BeginsAt s chunk from → EndsAt chunk (drop from chunk) line e
      → BegunEarlier s more → EndsAt chunk (ahead s.cr (drop s.position chunk)) more e → ⊥
  not_both from b x b' x' =
      let (i, p, l, is) = begins_later b b' in
      let f = (ending chunk from false x).feed_at in
      (ending chunk s.position s.cr x').feed_at.none_before i p (omega (arith, f.after)) l

  -- so two lines that end at one LF are one
  one_line : {carry : List ℕ} {e : ℕ} {line line' : List ℕ} {lies lies' : Place}
      → LineEnding s chunk carry e line lies → LineEnding s chunk carry e line' lies' → (line ≡ line') × (lies ≡ lies')
  one_line (new_line {from} {line} b x h) (new_line {from = from'} {line = line'} b' x' h') =
      let y = ending chunk from false x in
      let y' = ending chunk from' false x' in
      let same : from ≡ from' = from_one (begins_from b) (begins_from b') y.feed_at y'.feed_at in
      let l : line ≡ line' = y.line_is ∙ ap (λ (n : ℕ). first_line (drop n chunk)) same ∙ sym y'.line_is in
      (l, ap₂ InChunk same (ap length l))
  one_line (new_line {from} b x h) (older_line b' x') = absurd (not_both from b x b' x')
  one_line (older_line b x) (new_line {from} b' x' h) = absurd (not_both from b' x' b x)
  one_line {carry} (older_line {more} b x) (older_line {more = more'} b' x') =
      let m : more ≡ more' = (ending chunk s.position s.cr x).line_is ∙ sym (ending chunk s.position s.cr x').line_is in
      let l : so_far s carry ++ more ≡ so_far s carry ++ more' = ap (λ (t : List ℕ). so_far s carry ++ t) m in
      (l, ap (λ (t : List ℕ). InCarry (length t)) l)

pub same_end : {s : Chunks} {chunk carry line line' : List ℕ} {lies lies' : Place} (f : FirstLine s chunk carry line lies) (g : FirstLine s chunk carry line' lies') → f.ends ≡ g.ends
same_end {line} {line'} {lies} {lies'} f g = omega (arith, f.first g.ends line' lies' g.is_line, g.first f.ends line lies f.is_line)

pub first_unique : FirstUnique
first_unique s chunk carry line line' lies lies' f g = one_line s chunk f.is_line (rw (same_end f g) g.is_line)

-- ---- what is looked for

pub data Looked (s : Chunks) (chunk carry : List ℕ) (f : Sought) : Type 0 where
  none_ends : NoLine s chunk carry → (n : ℕ) (b : Begun) → f ≡ unended n b → Looked s chunk carry f
  one_ends : (line : List ℕ) (lies : Place) (g : FirstLine s chunk carry line lies) (start : Option (List ℕ)) (n : ℕ) (k : Kept)
      → f ≡ ended start n k (drop (suc g.ends) chunk) → AsKept k line → place chunk start line ≡ lies → Looked s chunk carry f

module _ (s : Chunks) (chunk carry : List ℕ) where
  abbrev text : List ℕ
  text = drop s.position chunk

  -- a line that begins at a place, or directly after an LF from there on
  record AsOwn (p e : ℕ) (line : List ℕ) (lies : Place) : Type 0 where
    from : ℕ
    own : Own chunk p e from line
    lies_is : lies ≡ InChunk from (length line)

  -- all lines that end there are such, and the other way round
  record AllOwn (p : ℕ) : Type 0 where
    to_own : (e : ℕ) (line : List ℕ) (lies : Place) → LineEnding s chunk carry e line lies → AsOwn p e line lies
    of_own : (e from : ℕ) (line : List ℕ) → Own chunk p e from line → LineEnding s chunk carry e line (InChunk from (length line))

  by_own : (p n : ℕ) → AllOwn p → Looked s chunk carry (seek_at chunk p n)
  unfolding stands_for place
  by_own p n a = go (search_from chunk p n)
    where
      go : Searched chunk p n → Looked s chunk carry (seek_at chunk p n)
      go (inl x) = none_ends (λ e line lies l. let o = a.to_own e line lies l in x.no_own e o.from line o.own) x.empties x.held x.sought
      go (inr x) =
          let f = (ending chunk x.from false x.own.ends).feed_at in
          one_ends x.line (InChunk x.from (length x.line))
          (record {
            ends = x.e;
            is_line = a.of_own x.e x.from x.line x.own;
            first = λ e line lies l. let o = a.to_own e line lies l in x.least e o.from line o.own;
          })
          (some (drop x.from chunk)) x.empties (brief x.line) x.sought (as_kept none_kept x.line sound_nothing) (there x.from (length x.line) (omega (arith, f.after, f.inside)))
        where
          there : (from n : ℕ) → from ≤ length chunk → InChunk (length chunk - length (drop from chunk)) n ≡ InChunk from n
          there from n h = let is : length chunk - length (drop from chunk) ≡ from = omega (arith, length-drop from chunk) in rw is

  -- with nothing begun
  all_fresh : s.used ≡ 0 → s.cr ≡ false → AllOwn s.position
  all_fresh u c = record { to_own = λ e line lies l. to l; of_own = λ e from line o. new_line (of o.begins) o.ends o.some_byte }
    where
      to : {e : ℕ} {line : List ℕ} {lies : Place} → LineEnding s chunk carry e line lies → AsOwn s.position e line lies
      to (new_line {from} b x h) = record { from = from; own = record { begins = begins_from s chunk b; ends = x; some_byte = h }; lies_is = refl }
      to (older_line b x) = absurd (not_begun s chunk b u c)

      of : {from : ℕ} → From chunk s.position from → BeginsAt s chunk from
      of here = at_front u c
      of (later h l) = after_LF h l

  look_at_fresh : s.used ≡ 0 → s.cr ≡ false → Looked s chunk carry (look s.empties (begun s carry) text)
  look_at_fresh u c =
      rw (look_fresh s.empties s.used (left_out s) s.cr carry text u (none_out s u) c) (by_own s.position s.empties (all_fresh u c))

  -- ---- with a line begun

  waiting_is : (cr : Bool) (t : List ℕ) → waiting cr t ≡ ahead cr t
  unfolding waiting
  waiting_is true t = refl
  waiting_is false t = refl

  abbrev held : Begun
  held = begun s carry

  abbrev more : List ℕ
  more = first_line (ahead s.cr text)

  no_LF_left : has_LF text ≡ false → Looked s chunk carry (seek none s.empties held text)
  no_LF_left h =
      let (b, e) = no_feed text none s.empties held h in
      none_ends
      (λ i line lies l.
      let x = line_LF s chunk l in
      let t : ◌≡◌ {A = Bool} true false = sym (LF_from chunk s.position i x.left x.inside x.feed) ∙ h in
      let z : ◌≡◌ {A = ℕ} 0 1 = cc in omega arith)
      s.empties b e

  module _ (h : has_LF text ≡ true) where
    f : Feeds chunk s.position
    f = feeds chunk s.position h

    at_its_LF : seek none s.empties held text ≡ settled none s.empties (foldl push held.kept more) (drop (suc f.e) chunk)
    at_its_LF =
        feed_in text none s.empties held h
        ∙ ap₂ (λ (t : List ℕ) (r : List ℕ). settled none s.empties (foldl push held.kept (first_line t)) r) (waiting_is s.cr text) (sym f.behind)

    older_found : Sound held.kept → BegunEarlier s more → is_empty (foldl push held.kept more).bytes ≡ false → Looked s chunk carry (seek none s.empties held text)
    unfolding settled place
    older_found sound b e =
        one_ends (so_far s carry ++ more) (InCarry (length (so_far s carry ++ more)))
        (record {
          ends = f.e;
          is_line = older_line b (ends_there chunk s.position s.cr f h);
          first = λ i line lies l. let x = line_LF s chunk l in feed_least f.at i x.left x.feed;
        })
        none s.empties (foldl push held.kept more) (at_its_LF ∙ rw e) (as_kept held.kept more sound) refl

    -- an empty line: only its CR was begun
    module _ (u : s.used ≡ 0) (c : s.cr ≡ true) (z : more ≡ []) where
      all_after : AllOwn (suc f.e)
      all_after = record { to_own = λ e line lies l. to l; of_own = λ e from line o. new_line (of o.begins) o.ends o.some_byte }
        where
          begins : {from : ℕ} → BeginsAt s chunk from → From chunk (suc f.e) from
          begins (at_front u' c') = let t : ◌≡◌ {A = Bool} true false = sym c ∙ c' in let y : ◌≡◌ {A = ℕ} 0 1 = cc in absurd (omega arith)
          begins (after_LF {i} p l) = split i f.e (λ k. let q : f.e ≡ i = omega (arith, feed_least f.at i p l) in rw q here) (λ k. later k l)

          empty : {more' : List ℕ} {e : ℕ} → BegunEarlier s more' → EndsAt chunk (ahead s.cr text) more' e → ⊥
          empty (by_used g) x = omega arith
          empty (by_CR d g) x = g ((ending chunk s.position s.cr x).line_is ∙ z)

          to : {e : ℕ} {line : List ℕ} {lies : Place} → LineEnding s chunk carry e line lies → AsOwn (suc f.e) e line lies
          to (new_line {from} b x g) = record { from = from; own = record { begins = begins b; ends = x; some_byte = g }; lies_is = refl }
          to (older_line b x) = absurd (empty b x)

          of : {from : ℕ} → From chunk (suc f.e) from → BeginsAt s chunk from
          of here = after_LF f.at.after f.at.feed
          of (later {i} p l) = after_LF {i = i} (omega (arith, f.at.after)) l

      passed : is_empty (foldl push held.kept more).bytes ≡ true → Looked s chunk carry (seek none s.empties held text)
      unfolding settled
      passed e = rw (at_its_LF ∙ settled_empty) (by_own (suc f.e) (counted s.empties) all_after)
        where
          settled_empty : settled none s.empties (foldl push held.kept more) (drop (suc f.e) chunk) ≡ seek_at chunk (suc f.e) (counted s.empties)
          settled_empty = rw e

  module _ (big : 522 ≤ length carry) (few : s.used ≤ 522) where
    older_used : 0 < s.used → Looked s chunk carry (seek none s.empties held text)
    older_used u = go (has_LF text) refl
      where
        go : (b : Bool) → has_LF text ≡ b → Looked s chunk carry (seek none s.empties held text)
        go false h = no_LF_left h
        go true h = older_found h (sound_begun s carry big few) (by_used u) (pushes_some more held.kept (some_line s.used carry (λ z. omega arith) (omega arith)))

    older_CR : s.used ≡ 0 → s.cr ≡ true → Looked s chunk carry (seek none s.empties held text)
    unfolding is_empty
    older_CR u c = go (has_LF text) refl
      where
        none_held : held.kept ≡ none_kept
        none_held = ap₂ (λ (l : List ℕ) (n : ℕ). record { bytes = l; skipped = n }) (ap (λ (n : ℕ). take n carry) u) (none_out s u)

        emptiness : is_empty (foldl push held.kept more).bytes ≡ is_empty more
        emptiness = ap (λ (k : Kept). is_empty (foldl push k more).bytes) none_held ∙ brief_empty more

        by_more : has_LF text ≡ true → (l : List ℕ) → more ≡ l → Looked s chunk carry (seek none s.empties held text)
        by_more h [] e = passed h u c e (emptiness ∙ ap is_empty e)
        by_more h (d ∷ l) e =
            older_found h (sound_begun s carry big few) (by_CR c (λ z. let y : ◌≡◌ {A = ℕ} 0 1 = cc in omega arith)) (emptiness ∙ ap is_empty e)

        go : (b : Bool) → has_LF text ≡ b → Looked s chunk carry (seek none s.empties held text)
        go false h = no_LF_left h
        go true h = by_more h more refl

    pub looked : Looked s chunk carry (look s.empties held text)
    looked = split s.used 0 (λ u. by_CR_flag (omega arith) s.cr refl)
        (λ u. rw (look_kept s.empties s.used (left_out s) s.cr carry text u (omega arith)) (older_used u))
      where
        by_CR_flag : s.used ≡ 0 → (b : Bool) → s.cr ≡ b → Looked s chunk carry (look s.empties held text)
        by_CR_flag u true c = rw (look_cr s.empties s.used (left_out s) s.cr carry text u c) (older_CR u c)
        by_CR_flag u false c = look_at_fresh u c
