-- The lines that the byte machine makes of a text are the text's lines that have a byte, each as what is kept of it stands for, and with its
-- number.
-- Assumes nothing.
use Rattle.std.proofs.Common.{◌≡◌, ℕ, suc, ◌+◌, ◌%◌, ◌^◌, Bool, true, false, eqb, List, [], ◌∷◌, ◌++◌, sym, refl, ap, ◌∙◌, ap₂, arith, eqb-true}
use mathlib.Core.Option.{Option, some}
use Rattle.std.specs.Prelude.{if◌then◌else◌}
use Rattle.digits.proofs.Tests.{both_ways}
use Rattle.reader.specs.Lines.{LF, CR, first_line, rest, lines}
use Rattle.reader.proofs.Cutting.{lines_cons}
use Rattle.chunks.specs.Begun.{Kept, Begun, nothing, is_empty, brief, stands_for, with_CR, add, counted, Sought, ended, unended, seek, look}
use Rattle.chunks.specs.Rows.{Nth, nth, numbered}
use Rattle.chunks.proofs.Waiting.{waiting, whole, settle_CR, whole_more, brief_empty}
use Rattle.chunks.proofs.InPlace.{rest_on}

-- ---- machine numbers

abbrev pub M : ℕ
M = 2 ^ 64

pub one_on : (x y : ℕ) → x % M ≡ y % M → suc x % M ≡ suc y % M
one_on x y e = omega arith

pub counted_on : (l n : ℕ) → (l + counted n) % M ≡ suc (l + n) % M
counted_on l n = omega arith

pub twice : (x : ℕ) → x % M % M ≡ x % M
twice x = omega arith

-- ---- pieces

-- a line before others, as what is kept of it stands for, unless it is empty; m lines stand ahead of it
unfoldable pub before : (m : ℕ) → Kept → List Nth → List Nth
before m k ls = if is_empty k.bytes then ls else nth (suc m % M) (stands_for k) ∷ ls

-- the lines of a text that goes on with a begun line, to the text's end
unfoldable pub pieces : (m : ℕ) → Begun → List ℕ → List Nth
unfolding before
pieces m b [] = before m (with_CR b) []
pieces m b (c ∷ text) = if eqb c LF then before m b.kept (pieces (suc m) nothing text) else pieces m (add b c) text

pub pieces_end : (l n : ℕ) (b : Begun) (e : Bool) → is_empty (with_CR b).bytes ≡ e → pieces (l + n) b [] ≡ (if e then [] else nth ((l + counted n) % M) (stands_for (with_CR b)) ∷ [])
unfolding pieces
pieces_end l n b e q = rw (q, counted_on l n)

before_mod : (m m' : ℕ) (k : Kept) {ls ls' : List Nth} → m % M ≡ m' % M → ls ≡ ls' → before m k ls ≡ before m' k ls'
unfolding before
before_mod m m' k e f = ap₂ (λ (n : ℕ) (x : List Nth). if is_empty k.bytes then x else nth n (stands_for k) ∷ x) (one_on m m' e) f

pub pieces_mod : (text : List ℕ) (m m' : ℕ) (b : Begun) → m % M ≡ m' % M → pieces m b text ≡ pieces m' b text
unfolding pieces
pieces_mod [] m m' b e = before_mod m m' (with_CR b) e refl
pieces_mod (c ∷ text) m m' b e =
    both_ways (λ lf. (if lf then before m b.kept (pieces (suc m) nothing text) else pieces m (add b c) text) ≡ (if lf then before m' b.kept (pieces (suc m') nothing text) else pieces m' (add b c) text))
    (eqb c LF) (before_mod m m' b.kept e (pieces_mod text (suc m) (suc m') nothing (one_on m m' e))) (pieces_mod text m m' (add b c) e)

-- the same where the text is in two parts, with l the number of the line answered last
unfoldable pub found : (l : ℕ) → Sought → (more : List ℕ) → List Nth
found l (ended start n kept rest) more = nth ((l + counted n) % M) (stands_for kept) ∷ pieces (l + counted n) nothing (rest ++ more)
found l (unended n b) more = pieces (l + n) b more

pieces_split : (text : List ℕ) (l n : ℕ) (start : Option (List ℕ)) (b : Begun) (more : List ℕ) → pieces (l + n) b (text ++ more) ≡ found l (seek start n b text) more
unfolding pieces found seek
pieces_split [] l n start b more = refl
pieces_split (c ∷ text) l n start b more =
    both_ways
    (λ lf. (if lf then before (l + n) b.kept (pieces (suc (l + n)) nothing (text ++ more)) else pieces (l + n) (add b c) (text ++ more))
    ≡ found l (if lf then (if is_empty b.kept.bytes then seek (some text) (counted n) nothing text else ended start n b.kept text) else seek start n (add b c) text) more)
    (eqb c LF) (at_feed (is_empty b.kept.bytes) (pieces_split text l (counted n) (some text) nothing more)) (pieces_split text l n start (add b c) more)
  where
    on : pieces (suc (l + n)) nothing (text ++ more) ≡ pieces (l + counted n) nothing (text ++ more)
    on = pieces_mod (text ++ more) (suc (l + n)) (l + counted n) nothing (sym (counted_on l n))

    at_feed : (empty : Bool) → pieces (l + counted n) nothing (text ++ more) ≡ found l (seek (some text) (counted n) nothing text) more
        → (if empty then pieces (suc (l + n)) nothing (text ++ more) else nth (suc (l + n) % M) (stands_for b.kept) ∷ pieces (suc (l + n)) nothing (text ++ more))
        ≡ found l (if empty then seek (some text) (counted n) nothing text else ended start n b.kept text) more
    at_feed true ih = on ∙ ih
    at_feed false ih = ap₂ (λ (k : ℕ) (x : List Nth). nth k (stands_for b.kept) ∷ x) (sym (counted_on l n)) on

pub pieces_look : (l n : ℕ) (b : Begun) (text more : List ℕ) → pieces (l + n) b (text ++ more) ≡ found l (look n b text) more
unfolding look
pieces_look l n b text more = pieces_split text l n _ b more

-- ---- the pieces are the lines

unfoldable pub briefs : List Nth → List Nth
briefs [] = []
briefs (nth n l ∷ ls) = nth n (stands_for (brief l)) ∷ briefs ls

-- the lines that have a byte, each as what is kept of it stands for, with m lines ahead
abbrev all_kept : (m : ℕ) → List ℕ → List Nth
all_kept m text = briefs (numbered (suc m) (lines text))

before_kept : (m : ℕ) (l : List ℕ) (ls : List (List ℕ)) → before m (brief l) (briefs (numbered (suc (suc m)) ls)) ≡ briefs (numbered (suc m) (l ∷ ls))
unfolding before briefs numbered is_empty
before_kept m [] ls = refl
before_kept m (c ∷ l) ls = rw (brief_empty (c ∷ l))

-- the text behind a begun line, cut at its first line
abbrev GoesOn : (m : ℕ) → Begun → List ℕ → Type 0
GoesOn m b text = pieces m b text ≡ before m (whole b text) (all_kept (suc m) (rest text))

-- at a line's start
afresh : (m : ℕ) (text : List ℕ) → GoesOn m nothing text → pieces m nothing text ≡ all_kept m text
unfolding waiting pieces lines numbered briefs before with_CR is_empty
afresh m [] h = refl
afresh m (c ∷ text) h =
    h ∙ before_kept m (first_line (c ∷ text)) (lines (rest (c ∷ text))) ∙ ap (λ (ls : List (List ℕ)). briefs (numbered (suc m) ls)) (sym (lines_cons c text))

at_end : (m : ℕ) (kept : Kept) (cr : Bool) → GoesOn m (record { kept = kept; cr = cr }) []
unfolding waiting pieces lines numbered briefs first_line rest with_CR
at_end m kept true = refl
at_end m kept false = refl

at_LF : (m : ℕ) (kept : Kept) (cr : Bool) (text : List ℕ) → pieces (suc m) nothing text ≡ all_kept (suc m) text
    → GoesOn m (record { kept = kept; cr = cr }) (LF ∷ text)
unfolding waiting pieces first_line rest
at_LF m kept true text h = ap (before m kept) h
at_LF m kept false text h = ap (before m kept) h

passed : (m : ℕ) (b : Begun) (c : ℕ) (text : List ℕ) → eqb c LF ≡ false → pieces m b (c ∷ text) ≡ pieces m (add b c) text
unfolding pieces
passed m b c text e = rw e

goes_on : (text : List ℕ) (m : ℕ) (b : Begun) → GoesOn m b text
goes_on [] m b = at_end m b.kept b.cr
goes_on (c ∷ text) m b = go (eqb c LF) refl (goes_on text)
  where
    go : (lf : Bool) → eqb c LF ≡ lf → ((m : ℕ) (b : Begun) → GoesOn m b text) → GoesOn m b (c ∷ text)
    go true e ih = rw (eqb-true c LF e) (at_LF m b.kept b.cr text (afresh (suc m) text (ih (suc m) nothing)))
    go false e ih =
        passed m b c text e
        ∙ ih m (add b c)
        ∙ ap₂ (λ (k : Kept) (r : List ℕ). before m k (all_kept (suc m) r)) (sym (settle_CR b.kept b.cr c text e ∙ whole_more b c text e (eqb c CR) refl)) (sym (rest_on c text e))

pub pieces_lines : (m : ℕ) (text : List ℕ) → pieces m nothing text ≡ briefs (numbered (suc m) (lines text))
pieces_lines m text = afresh m text (goes_on text m nothing)
