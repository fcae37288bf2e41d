-- Lines cut at the first that ends the text, and the bytes that hold the lines before it: `before_end` is what `specs/Join.antt` says it is, and
-- nothing else is.
-- Assumes nothing.
use mathlib.Core.Path.{◌≡◌, refl, sym, ap, ◌∙◌, subst}
use mathlib.Core.Logic.{◌⊎◌, inl, inr}
use Prim.Native.Nat.{ℕ, zero, suc, ◌<◌}
use native.Mathlib.Omega.{arith}
use mathlib.Core.Bool.{Bool, true, false}
use mathlib.Core.Option.{Option, some, map, get_or}
use mathlib.Core.List.Memᴰ
use mathlib.Core.List.{List, [], ◌∷◌, ◌++◌, append_assoc, Memᴰ}
use lib.Dec.{eqb}
use lib.ListN.{length, length-append, take, drop}
use lib.Seq.{take_at, drop_at}
use Rattle.std.specs.Prelude.{if◌then◌else◌}
use Rattle.reader.specs.Lines.{LF, lines, later, through}
use Rattle.reader.proofs.Cutting.{Closed, nothing, closed, lines_closed, Head, through_head}
use Rattle.steps.specs.Steps.{Action, places, starts, counts, finishes, fails}
use Rattle.steps.specs.Source.{Source}
use Rattle.steps.specs.Join.{ends, ahead, lines_ahead, before_end, state_after, Ends, NoneEnds, WholeLines, BeforeEnd, BeforeEndMadeSo, BeforeEndOnlySo, LinesAheadCounts}

-- ---- the end among actions

pub ends_there : (acts : List Action) → ends acts ≡ true → Memᴰ finishes acts
unfolding ends
ends_there [] e = let z : ◌≡◌ {A = ℕ} 0 1 = cc in absurd (omega arith)
ends_there (places what ∷ acts) e = Memᴰ.tail (ends_there acts e)
ends_there (starts x ∷ acts) e = Memᴰ.tail (ends_there acts e)
ends_there (counts c ∷ acts) e = Memᴰ.tail (ends_there acts e)
ends_there (finishes ∷ acts) e = Memᴰ.head refl
ends_there (fails r ∷ acts) e = Memᴰ.tail (ends_there acts e)

pub there_ends : (acts : List Action) → Memᴰ finishes acts → ends acts ≡ true
unfolding ends
there_ends [] m = absurd (Memᴰ.not-nil m)
there_ends (a ∷ acts) m = go a (Memᴰ.cases_cons m) (there_ends acts)
  where
    go : (a : Action) → (finishes ≡ a) ⊎ Memᴰ finishes acts → (Memᴰ finishes acts → ends acts ≡ true) → ends (a ∷ acts) ≡ true
    go (places what) (inl q) h = let z : ◌≡◌ {A = ℕ} 0 1 = cc in absurd (omega arith)
    go (places what) (inr n) h = h n
    go (starts x) (inl q) h = let z : ◌≡◌ {A = ℕ} 0 1 = cc in absurd (omega arith)
    go (starts x) (inr n) h = h n
    go (counts c) (inl q) h = let z : ◌≡◌ {A = ℕ} 0 1 = cc in absurd (omega arith)
    go (counts c) (inr n) h = h n
    go finishes q h = refl
    go (fails r) (inl q) h = let z : ◌≡◌ {A = ℕ} 0 1 = cc in absurd (omega arith)
    go (fails r) (inr n) h = h n

pub no_end_there : (acts : List Action) → (¬ Memᴰ finishes acts) → ends acts ≡ false
no_end_there acts n = go (ends acts) refl
  where
    go : (b : Bool) → ends acts ≡ b → ends acts ≡ false
    go true e = absurd (n (ends_there acts e))
    go false e = e

pub not_there : (acts : List Action) → ends acts ≡ false → ¬ Memᴰ finishes acts
not_there acts e m = let q = there_ends acts m in let z : ◌≡◌ {A = ℕ} 0 1 = cc in omega arith

-- ---- lines

module _ {S : Type 0} (src : Source S) where
  -- lines that have an end: those before the first one, that one, and the others
  pub record First (s : S) (ls : List (List ℕ)) : Type 0 where
    pub end : List ℕ
    pub others : List (List ℕ)
    pub whole : ls ≡ ahead src s ls ++ (end ∷ others)
    pub none_ends : NoneEnds src s (ahead src s ls)
    pub is_end : Ends src (state_after src s (ahead src s ls)) end

  first_here : (s : S) (c : ℕ) (l : List ℕ) (ls : List (List ℕ)) → ends (src.act s (c ∷ l)) ≡ true → First s ((c ∷ l) ∷ ls)
  unfolding ahead state_after
  first_here s c l ls e = record { end = c ∷ l; others = ls; whole = rw e; none_ends = rw e tt; is_end = rw e (ends_there (src.act s (c ∷ l)) e) }

  first_later : (s : S) (c : ℕ) (l : List ℕ) (ls : List (List ℕ)) → ends (src.act s (c ∷ l)) ≡ false → First (src.next s (c ∷ l)) ls → First s ((c ∷ l) ∷ ls)
  unfolding ahead state_after
  first_later s c l ls e f =
      record {
        end = f.end;
        others = f.others;
        whole = rw e (ap (λ (x : List (List ℕ)). (c ∷ l) ∷ x) f.whole);
        none_ends = rw e (not_there (src.act s (c ∷ l)) e, f.none_ends);
        is_end = rw e f.is_end;
      }

  pub first : (s : S) (before : List (List ℕ)) (line : List ℕ) (later : List (List ℕ)) → Ends src (state_after src s before) line → First s (before ++ (line ∷ later))
  unfolding ahead state_after
  first s [] [] later e = absurd e
  first s [] (c ∷ l) later e = first_here s c l later (there_ends (src.act s (c ∷ l)) e)
  first s ([] ∷ before) line later e =
      let f = first s before line later e in
      record { end = f.end; others = f.others; whole = ap (λ (x : List (List ℕ)). [] ∷ x) f.whole; none_ends = f.none_ends; is_end = f.is_end }
  first s ((c ∷ l) ∷ before) line later e = go (ends (src.act s (c ∷ l))) refl (first (src.next s (c ∷ l)) before line later e)
    where
      go : (b : Bool) → ends (src.act s (c ∷ l)) ≡ b → First (src.next s (c ∷ l)) (before ++ (line ∷ later)) → First s ((c ∷ l) ∷ (before ++ (line ∷ later)))
      go true q f = first_here s c l (before ++ (line ∷ later)) q
      go false q f = first_later s c l (before ++ (line ∷ later)) q f

  -- and no other lines stand before the first one
  ahead_only : (s : S) (front : List (List ℕ)) (end : List ℕ) (others : List (List ℕ)) → NoneEnds src s front → Ends src (state_after src s front) end
      → ahead src s (front ++ (end ∷ others)) ≡ front
  unfolding ahead state_after
  ahead_only s [] [] others n e = absurd e
  ahead_only s [] (c ∷ l) others n e = rw (there_ends (src.act s (c ∷ l)) e)
  ahead_only s ([] ∷ front) end others n e = ap (λ (x : List (List ℕ)). [] ∷ x) (ahead_only s front end others n e)
  ahead_only s ((c ∷ l) ∷ front) end others (x, n) e =
      rw (no_end_there (src.act s (c ∷ l)) x) (ap (λ (x : List (List ℕ)). (c ∷ l) ∷ x) (ahead_only (src.next s (c ∷ l)) front end others n e))

-- ---- the bytes that hold them

-- there is a text through the n-th LF where there are more than n lines; `later` counts the lines after one that was begun
through_some : (text : List ℕ)
    → ((n : ℕ) → n < length (lines text) → (head : List ℕ) × (through n text ≡ some head))
    × ((n : ℕ) → n < suc (length (later text)) → (head : List ℕ) × (through n text ≡ some head))
unfolding lines later through
through_some [] = (λ n h. absurd (omega arith), begun)
  where
    begun : (n : ℕ) → n < 1 → (head : List ℕ) × (through n [] ≡ some head)
    begun zero h = ([], refl)
    begun (suc n) h = absurd (omega arith)
through_some (c ∷ text) = let (f, g) = through_some text in (at_line f g, at_line f g)
  where
    one_more_byte : (o : Option (List ℕ)) → ((head : List ℕ) × (o ≡ some head)) → (head : List ℕ) × (map (λ part. c ∷ part) o ≡ some head)
    one_more_byte o (head, e) = (c ∷ head, ap (λ (x : Option (List ℕ)). map (λ part. c ∷ part) x) e)

    go : (b : Bool) (n : ℕ) → ((m : ℕ) → m < length (lines text) → (head : List ℕ) × (through m text ≡ some head))
        → ((m : ℕ) → m < suc (length (later text)) → (head : List ℕ) × (through m text ≡ some head))
        → n < length (if b then lines text else later text) → (head : List ℕ) × ((if b then through n text else through (suc n) text) ≡ some head)
    go true n f g h = f n h
    go false n f g h = g (suc n) (omega arith)

    at_line : ((m : ℕ) → m < length (lines text) → (head : List ℕ) × (through m text ≡ some head))
        → ((m : ℕ) → m < suc (length (later text)) → (head : List ℕ) × (through m text ≡ some head))
        → (n : ℕ) → n < suc (length (if eqb c LF then lines text else later text)) → (head : List ℕ) × (through n (c ∷ text) ≡ some head)
    at_line f g zero h = ([], refl)
    at_line f g (suc n) h = one_more_byte _ (go (eqb c LF) n f g (omega arith))

-- whole lines are what stands through their own last LF
through_closed : (part q : List ℕ) → through (length (lines (part ++ (LF ∷ [])))) (part ++ (LF ∷ q)) ≡ some (part ++ (LF ∷ []))
unfolding lines later through
through_closed [] q = refl
through_closed (c ∷ part) q = ap (λ (o : Option (List ℕ)). map (λ p. c ∷ p) o) (go (eqb c LF) (through_closed part q))
  where
    begun : (t : List ℕ) → suc (length (later (t ++ (LF ∷ [])))) ≡ length (lines (t ++ (LF ∷ [])))
    begun [] = refl
    begun (d ∷ t) = refl

    go : (b : Bool) → through (length (lines (part ++ (LF ∷ [])))) (part ++ (LF ∷ q)) ≡ some (part ++ (LF ∷ []))
        → (if b then through (length (if b then lines (part ++ (LF ∷ [])) else later (part ++ (LF ∷ [])))) (part ++ (LF ∷ q))
        else through (suc (length (if b then lines (part ++ (LF ∷ [])) else later (part ++ (LF ∷ []))))) (part ++ (LF ∷ q)))
        ≡ some (part ++ (LF ∷ []))
    go true h = h
    go false h = rw (begun part) h

pub as_closed : (bytes : List ℕ) → WholeLines bytes → Closed bytes
as_closed bytes (inl e) = rw e nothing
as_closed bytes (inr (part, e)) = rw e (closed part)

from_closed : {bytes : List ℕ} → Closed bytes → WholeLines bytes
from_closed nothing = inl refl
from_closed (closed part) = inr (part, refl)

through_whole : {bytes : List ℕ} → Closed bytes → (q : List ℕ) → through (length (lines bytes)) (bytes ++ q) ≡ some bytes
unfolding lines through
through_whole nothing q = refl
through_whole (closed part) q = rw append_assoc (through_closed part q)

-- ---- the claims

-- so many whole lines of a text whose lines are two parts, and the rest of the text: the first part and the second
two_parts : (front back : List (List ℕ)) (text head : List ℕ) → lines text ≡ front ++ back → (k : Head (length front) text head)
    → (lines head ≡ front) × (lines k.tail ≡ back)
two_parts front back text head e k =
    let n = length front in
    let both : lines head ++ lines k.tail ≡ front ++ back = sym (lines_closed k.whole k.tail) ∙ ap lines (sym k.text_is) ∙ e in (
      sym (take_at (lines head) (lines k.tail) n k.count) ∙ ap (λ (x : List (List ℕ)). take n x) both ∙ take_at front back n refl,
      sym (drop_at (lines head) (lines k.tail) n k.count) ∙ ap (λ (x : List (List ℕ)). drop n x) both ∙ drop_at front back n refl,
    )

module _ {S : Type 0} (src : Source S) (text : List ℕ) (f : First src src.beginning (lines text)) where
  abbrev front : List (List ℕ)
  front = ahead src src.beginning (lines text)

  there : (head : List ℕ) × (through (length front) text ≡ some head)
  there = (through_some text).0 (length front) (omega (arith, ap length f.whole, length-append front (f.end ∷ f.others)))

  cut_so : (head : List ℕ) → Head (length front) text head → BeforeEnd src text head
  cut_so head k =
      let (before, after) = two_parts front (f.end ∷ f.others) text head f.whole k in
      record {
        rest = k.tail;
        whole = k.text_is;
        whole_lines = from_closed k.whole;
        none_ends = rw before f.none_ends;
        line = f.end;
        later = f.others;
        next = after;
        is_end = rw before f.is_end;
      }

  made_so : BeforeEnd src text (before_end src text)
  unfolding before_end lines_ahead
  made_so =
      let (head, t) = there in
      let is : get_or (through (length front) text) [] ≡ head = ap (λ (o : Option (List ℕ)). get_or o []) t in
      rw is (cut_so head (through_head (length front) text head t))

pub before_end_made_so : BeforeEndMadeSo
before_end_made_so S src text h =
    made_so src text (subst (First src src.beginning) (sym h.whole) (first src src.beginning h.before h.line h.later h.is_end))

-- whole lines without an end, and an end after them: these are the lines ahead
pub front_is : {S : Type 0} (src : Source S) (text before : List ℕ) → BeforeEnd src text before → ahead src src.beginning (lines text) ≡ lines before
front_is src text before b =
    ap (λ (x : List ℕ). ahead src src.beginning (lines x)) b.whole
    ∙ ap (ahead src src.beginning)
    (lines_closed (as_closed before b.whole_lines) b.rest ∙ ap (λ (x : List (List ℕ)). lines before ++ x) b.next)
    ∙ ahead_only src src.beginning (lines before) b.line b.later b.none_ends b.is_end

pub before_end_only_so : BeforeEndOnlySo
unfolding before_end lines_ahead
before_end_only_so S src text before b =
    let n : length (ahead src src.beginning (lines text)) ≡ length (lines before) = ap length (front_is src text before b) in
    let there : through (length (lines before)) text ≡ some before =
    ap (through (length (lines before))) b.whole ∙ through_whole (as_closed before b.whole_lines) b.rest in
    sym (ap (λ (m : ℕ). get_or (through m text) []) n ∙ ap (λ (o : Option (List ℕ)). get_or o []) there)

pub lines_ahead_counts : LinesAheadCounts
unfolding lines_ahead
lines_ahead_counts S src text h = ap length (front_is src text (before_end src text) (before_end_made_so S src text h))
