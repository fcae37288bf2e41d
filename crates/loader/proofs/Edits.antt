-- Lines that differ in one slip, and texts cut where a line ends. A line that is accepted is empty or a record, so it has no CR: it is
-- what stands before its LF, but for CR. So it does not matter which CR belongs to a line's end.
-- Assumes nothing.
use Rattle.std.proofs.Common.{◌≡◌, ℕ, ◌≤◌, Bool, true, false, ◌&&◌, eqb, ◌⊎◌, List, [], ◌∷◌, ◌++◌, length, drop, sym, refl, ap, ◌∙◌, ap₂, inl, inr, arith, ne_eqb, eqb-true}
use native.Mathlib.Decide.{ℕ_discrete}
use mathlib.Core.Option.{some}
use Rattle.digits.specs.Common.{Every}
use Rattle.std.specs.Prelude.{if◌then◌else◌}
use Rattle.record.specs.Line.{judge}
use Rattle.record.specs.Noise.{SaysARecord, Slip, no_slip, one_changed, one_lost, one_added, two_swapped}
use Rattle.digits.proofs.Tests.{both_ways}
use Rattle.record.proofs.Noise.{odd_length, one_more_character, characters, one_slip}
use Rattle.reader.specs.Lines.{LF, CR, at_LF, ends_line, first_line, rest}
use Rattle.reader.proofs.Cutting.{Closed, nothing, closed}
use Rattle.loader.specs.Noise.{NoLF}
use Rattle.loader.proofs.Agreeing.{Fine, word}

-- ---- a slip, in its line

-- what became of the characters where it happened: one or none became one or none, or two changed places
pub data Turned : (old new : List ℕ) → Type 0 where
  few : {old new : List ℕ} → length old ≤ 1 → length new ≤ 1 → Turned old new
  swapped : (a b : ℕ) → Turned (a ∷ b ∷ []) (b ∷ a ∷ [])

pub record Turn (line line' : List ℕ) : Type 0 where
  pub before : List ℕ
  pub old : List ℕ
  pub new : List ℕ
  pub after : List ℕ
  pub line_was : line ≡ before ++ (old ++ after)
  pub line_is : line' ≡ before ++ (new ++ after)
  pub turned : Turned old new

-- where nothing is between them
abbrev pub turn_at : (before old new after : List ℕ) → Turned old new → Turn (before ++ (old ++ after)) (before ++ (new ++ after))
turn_at before old new after t = record { before = before; old = old; new = new; after = after; line_was = refl; line_is = refl; turned = t }

pub turn : {line line' : List ℕ} → Slip line line' → Turn line line'
turn (no_slip {row = l}) = turn_at [] [] [] l (few (omega arith) (omega arith))
turn (one_changed before old new after) = turn_at before (old ∷ []) (new ∷ []) after (few (omega arith) (omega arith))
turn (one_lost before lost after) = turn_at before (lost ∷ []) [] after (few (omega arith) (omega arith))
turn (one_added before added after) = turn_at before [] (added ∷ []) after (few (omega arith) (omega arith))
turn (two_swapped before a b after) = turn_at before (a ∷ b ∷ []) (b ∷ a ∷ []) after (swapped a b)

-- ---- two lines that differ in one slip

-- the characters but CR
abbrev pub without_CR : List ℕ → List ℕ
without_CR [] = []
without_CR (c ∷ l) = if eqb c CR then without_CR l else c ∷ without_CR l

pub without_append : (a b : List ℕ) → without_CR (a ++ b) ≡ without_CR a ++ without_CR b
without_append [] b = refl
without_append (c ∷ a) b =
    both_ways (λ t. (if t then without_CR (a ++ b) else c ∷ without_CR (a ++ b)) ≡ (if t then without_CR a else c ∷ without_CR a) ++ without_CR b) (eqb c CR)
    (without_append a b) (ap (λ (l : List ℕ). c ∷ l) (without_append a b))

pub without_parts : (a b c : List ℕ) → without_CR (a ++ (b ++ c)) ≡ without_CR a ++ (without_CR b ++ without_CR c)
without_parts a b c = without_append a (b ++ c) ∙ ap (λ (l : List ℕ). without_CR a ++ l) (without_append b c)

pub without_few : (a : List ℕ) → length a ≤ 1 → length (without_CR a) ≤ 1
without_few [] h = omega arith
without_few (c ∷ []) h = both_ways (λ t. length (if t then [] else c ∷ []) ≤ 1) (eqb c CR) (omega arith) (omega arith)
without_few (c ∷ d ∷ a) h = absurd (omega arith)

pub without_turned : {old new : List ℕ} → Turned old new → Turned (without_CR old) (without_CR new)
without_turned (few {old} {new} h k) = few (without_few old h) (without_few new k)
without_turned (swapped a b) = go (eqb a CR) (eqb b CR)
  where
    go : (x y : Bool) → Turned (if x then (if y then [] else b ∷ []) else a ∷ (if y then [] else b ∷ [])) (if y then (if x then [] else a ∷ []) else b ∷ (if x then [] else a ∷ []))
    go true true = few {old = []} {new = []} (omega arith) (omega arith)
    go true false = few {old = b ∷ []} {new = b ∷ []} (omega arith) (omega arith)
    go false true = few {old = a ∷ []} {new = a ∷ []} (omega arith) (omega arith)
    go false false = swapped a b

-- a line that is fine has no CR
without_least : (l : List ℕ) → Every (λ (c : ℕ). 48 ≤ c) l → without_CR l ≡ l
without_least [] h = refl
without_least (c ∷ l) (h, hs) = rw (ne_eqb c CR (λ e. omega arith)) (ap (λ (x : List ℕ). c ∷ x) (without_least l hs))

fine_without : (l : List ℕ) → Fine l → without_CR l ≡ l
fine_without [] f = refl
fine_without (c ∷ l) f = without_least (c ∷ l) (characters (c ∷ l) f)

-- a line that is fine and has a character is a record
fine_says : (before : List ℕ) (c : ℕ) (after : List ℕ) → Fine (before ++ (c ∷ after)) → SaysARecord (before ++ (c ∷ after))
fine_says [] c after f = f
fine_says (b ∷ before) c after f = f

word_says : (before : List ℕ) (c : ℕ) (after : List ℕ) → word (before ++ (c ∷ after)) ≡ some (judge (before ++ (c ∷ after)))
word_says [] c after = refl
word_says (b ∷ before) c after = refl

-- of two lines, one with a character more, not both are fine
never_more : (before : List ℕ) (c : ℕ) (after : List ℕ) → Fine (before ++ (c ∷ after)) → ¬ Fine (before ++ after)
never_more [] c [] f g = let (n, e) = odd_length (c ∷ []) f in omega arith
never_more [] c (a ∷ after) f g = one_more_character [] c (a ∷ after) f g
never_more (b ∷ before) c after f g = one_more_character (b ∷ before) c after f g

-- two lines that are fine and differ in one slip say the same
pub edited : (p x y m : List ℕ) → Turned x y → Fine (p ++ (x ++ m)) → Fine (p ++ (y ++ m)) → word (p ++ (x ++ m)) ≡ word (p ++ (y ++ m))
edited p x y m (swapped a b) f g =
    word_says p a (b ∷ m) ∙ ap some (one_slip _ _ (two_swapped p a b m) (fine_says p a (b ∷ m) f) (fine_says p b (a ∷ m) g)) ∙ sym (word_says p b (a ∷ m))
edited p [] [] m (few h k) f g = refl
edited p [] (d ∷ []) m (few h k) f g = absurd (never_more p d m g f)
edited p (c ∷ []) [] m (few h k) f g = absurd (never_more p c m f g)
edited p (c ∷ []) (d ∷ []) m (few h k) f g =
    word_says p c m ∙ ap some (one_slip _ _ (one_changed p c d m) (fine_says p c m f) (fine_says p d m g)) ∙ sym (word_says p d m)
edited p [] (d ∷ d' ∷ y) m (few h k) f g = absurd (omega arith)
edited p (c ∷ []) (d ∷ d' ∷ y) m (few h k) f g = absurd (omega arith)
edited p (c ∷ c' ∷ x) y m (few h k) f g = absurd (omega arith)

-- ---- a text, cut where a line ends

pub no_LF_append : (a b : List ℕ) → NoLF a → NoLF b → NoLF (a ++ b)
no_LF_append [] b h k = k
no_LF_append (c ∷ a) b (h, hs) k = (h, no_LF_append a b hs k)

-- a byte or none: it is not a LF, or it is one
pub feed_or_not : (x : List ℕ) → length x ≤ 1 → NoLF x ⊎ (x ≡ LF ∷ [])
feed_or_not [] h = inl tt
feed_or_not (c ∷ []) h = elim (ℕ_discrete c LF) [ yes e ↦ inr (ap (λ (b : ℕ). b ∷ []) e) | no n ↦ inl (n, tt) ]
feed_or_not (c ∷ d ∷ x) h = absurd (omega arith)

-- the end of the text, or a LF
pub data Tail : List ℕ → Type 0 where
  ends : Tail []
  feeds : (t : List ℕ) → Tail (LF ∷ t)

-- a text, cut before its first LF
pub record FirstCut (text : List ℕ) : Type 0 where
  pub front : List ℕ
  pub tail : List ℕ
  pub whole : text ≡ front ++ tail
  pub plain : NoLF front
  pub is_tail : Tail tail

pub first_cut : (text : List ℕ) → FirstCut text
first_cut [] = record { front = []; tail = []; whole = refl; plain = tt; is_tail = ends }
first_cut (c ∷ text) = go (ℕ_discrete c LF) (first_cut text)
  where
    go : Dec (c ≡ LF) → FirstCut text → FirstCut (c ∷ text)
    go (yes e) k = record { front = []; tail = LF ∷ text; whole = ap (λ (x : ℕ). x ∷ text) e; plain = tt; is_tail = feeds text }
    go (no n) k = record { front = c ∷ k.front; tail = k.tail; whole = ap (λ (l : List ℕ). c ∷ l) k.whole; plain = (n, k.plain); is_tail = k.is_tail }

-- and after its last
pub record LastCut (text : List ℕ) : Type 0 where
  pub head : List ℕ
  pub open_part : List ℕ
  pub whole : text ≡ head ++ open_part
  pub is_closed : Closed head
  pub plain : NoLF open_part

pub last_cut : (text : List ℕ) → LastCut text
last_cut [] = record { head = []; open_part = []; whole = refl; is_closed = nothing; plain = tt }
last_cut (c ∷ text) = let k = last_cut text in go k.head k.open_part k.whole k.is_closed k.plain (ℕ_discrete c LF)
  where
    go : (head open_part : List ℕ) → text ≡ head ++ open_part → Closed head → NoLF open_part → Dec (c ≡ LF) → LastCut (c ∷ text)
    go head open_part e (closed part) n d = record { head = c ∷ head; open_part = open_part; whole = ap (λ (l : List ℕ). c ∷ l) e; is_closed = closed (c ∷ part); plain = n }
    go head open_part e nothing n (yes z) = record { head = LF ∷ []; open_part = open_part; whole = ap₂ (λ (x : ℕ) (l : List ℕ). x ∷ l) z e; is_closed = closed []; plain = n }
    go head open_part e nothing n (no z) = record { head = []; open_part = c ∷ open_part; whole = ap (λ (l : List ℕ). c ∷ l) e; is_closed = nothing; plain = (z, n) }

-- after a first line comes the rest, and the line is what stands before it, but for a CR
at_LF_front : (x t : List ℕ) → NoLF x → at_LF (x ++ t) ≡ true → x ≡ []
unfolding at_LF
at_LF_front [] t n e = refl
at_LF_front (c ∷ x) t (n, ns) e = absurd (n (eqb-true c LF e))

pub cut_rest : (x t : List ℕ) → NoLF x → Tail t → rest (x ++ t) ≡ drop 1 t
unfolding rest
cut_rest [] t n ends = refl
cut_rest [] t n (feeds r) = refl
cut_rest (c ∷ x) t (n, ns) k = rw (ne_eqb c LF n) (cut_rest x t ns k)

cut_line : (x t : List ℕ) → NoLF x → Tail t → without_CR (first_line (x ++ t)) ≡ without_CR x
unfolding first_line ends_line
cut_line [] t n ends = refl
cut_line [] t n (feeds r) = refl
cut_line (c ∷ x) t (n, ns) k = rw (ne_eqb c LF n) (go (eqb c CR) refl (at_LF (x ++ t)) refl (cut_line x t ns k))
  where
    go : (b : Bool) → eqb c CR ≡ b → (a : Bool) → at_LF (x ++ t) ≡ a → without_CR (first_line (x ++ t)) ≡ without_CR x
        → without_CR (if b && a then [] else c ∷ first_line (x ++ t)) ≡ (if b then without_CR x else c ∷ without_CR x)
    go true e true f i = sym (ap without_CR (at_LF_front x t ns f))
    go true e false f i = rw e i
    go false e a f i = rw e (ap (λ (l : List ℕ). c ∷ l) i)

-- so a first line that is fine is the part before the LF, but for a CR
pub fine_line : (x t : List ℕ) → NoLF x → Tail t → Fine (first_line (x ++ t)) → first_line (x ++ t) ≡ without_CR x
fine_line x t n k f = sym (fine_without (first_line (x ++ t)) f) ∙ cut_line x t n k
