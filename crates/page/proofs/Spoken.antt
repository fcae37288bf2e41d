-- What the lines of a written object say: its lines are cut where they were joined, each says its record, and only the last stops the reader.
-- Assumes nothing.
use Prim.Native.Nat.{ℕ, suc, ◌+◌, ◌≤◌, ◌<◌}
use mathlib.Core.Path.{◌≡◌, refl, sym, ◌∙◌, ap, ap₂}
use mathlib.Core.Logic.{◌≢◌, ◌⊎◌, inl, inr}
use mathlib.Core.Bool.{Bool, true, false, ◌&&◌}
use mathlib.Core.Option.{none}
use mathlib.Core.List.Memᴰ
use mathlib.Core.List.{List, [], ◌∷◌, ◌++◌, map, nil≢cons, Memᴰ, tail-eq_of_cons-eq, head-eq_of_cons-eq}
use native.Mathlib.Omega.{arith}
use lib.ListN.{length}
use Rattle.digits.specs.Common.{Every, Byte}
use Rattle.std.specs.Prelude.{if◌then◌else◌}
use Rattle.record.specs.declared.Record.{Record}
use Rattle.record.specs.declared.Record.TheVariants.{Data, EndOfFile, ExtendedSegmentAddress, StartSegmentAddress, ExtendedLinearAddress, StartLinearAddress}
use Rattle.record.specs.Record.{meant}
use Rattle.record.specs.Line.{Said, judge}
use Rattle.record.specs.Meaning.{Meaning}
use Rattle.record.specs.Written.{written, Sayable}
use Rattle.digits.proofs.Tests.{both_ways, and_true}
use Rattle.record.proofs.Writing.{reads_back}
use Rattle.reader.specs.Lines.{LF, CR, with_LF, nothing, more, lines}
use Rattle.reader.specs.Row.{Numbered, on, sayings, is_end, stops, through_stop, row}
use Rattle.reader.specs.Text.{default_options}
use Rattle.reader.proofs.Cutting.{lines_closed, closed}
use Rattle.reader.proofs.Texts.{lines_join}
use Rattle.writer.specs.Line.{line_refusal, line}
use Rattle.writer.specs.Object as object
use Rattle.writer.specs.Claims.{InRange}
use Rattle.writer.proofs.Objects.{one_at_least, object_whole}
use Rattle.writer.proofs.Claims.{sayable, line_plain}
use Rattle.page.specs.Spoken.{said_of, spoken, SpokenRow}

-- ---- a plain line with its LF is one line

not_among : (least : ℕ) {x : ℕ} (xs : List ℕ) → x < least → Every (λ c. least ≤ c) xs → ¬ Memᴰ x xs
not_among least [] l h m = Memᴰ.not-nil m
not_among least {x} (y ∷ xs) l (h, hs) m = go (Memᴰ.cases_cons m) (λ m. not_among least xs l hs m)
  where
    go : (x ≡ y) ⊎ Memᴰ x xs → ¬ Memᴰ x xs → ⊥
    go (inl e) later = omega arith
    go (inr m) later = later m

no_CR_last : (l front : List ℕ) → Every (λ c. 48 ≤ c) l → l ≢ front ++ (CR ∷ [])
no_CR_last [] [] h e = nil≢cons e
no_CR_last [] (f ∷ front) h e = nil≢cons e
no_CR_last (c ∷ l) [] (h, hs) e = let q : c ≡ CR = head-eq_of_cons-eq e in omega arith
no_CR_last (c ∷ l) (f ∷ front) (h, hs) e = no_CR_last l front hs (tail-eq_of_cons-eq e)

one_line : (l : List ℕ) → Every (λ c. 48 ≤ c) l → lines (l ++ (LF ∷ [])) ≡ l ∷ []
one_line l h =
    sym ((lines_join (l ++ (LF ∷ [])) (l ∷ [])).0
    (more (not_nil l) (record { end = LF ∷ []; whole = refl; no_LF = not_among 48 l (omega arith) h; ended = with_LF (λ front. no_CR_last l front h) }) nothing))
  where
    not_nil : (l : List ℕ) → l ++ (LF ∷ []) ≢ []
    not_nil [] e = nil≢cons (sym e)
    not_nil (c ∷ l) e = nil≢cons (sym e)

-- the lines of an object's text
pub lines_of : (rs : List Record) (pool : List ℕ) → lines (object.joined_lines rs pool) ≡ map (λ r. line r pool) rs
unfolding lines object.joined_lines
lines_of [] pool = refl
lines_of (r ∷ rs) pool =
    lines_closed (closed (line r pool)) (object.joined_lines rs pool)
    ∙ ap₂ (λ (xs ys : List (List ℕ)). xs ++ ys) (one_line (line r pool) (line_plain r pool)) (lines_of rs pool)

-- ---- each line says its record

-- what a record that has a line says
pub says_so : (r : Record) (pool : List ℕ) → Sayable (meant r pool) → judge (line r pool) ≡ said_of (meant r pool)
says_so r pool h = (reads_back (meant r pool) h).said

sayings_of : (n : ℕ) (rs : List Record) (pool : List ℕ) → Every (λ r. Sayable (meant r pool)) rs → sayings n (map (λ r. line r pool) rs) ≡ spoken n rs pool
unfolding sayings spoken written
sayings_of n [] pool h = refl
sayings_of n (r ∷ rs) pool (h, hs) =
    ap₂ (λ (s : Said) (l : List Numbered). on n s ∷ l) (says_so r pool h) (sayings_of (suc n) rs pool hs)

-- ---- only the last stops the reader

end_of : (r : Record) (pool : List ℕ) → is_end (meant r pool) ≡ object.is_end r
unfolding is_end
end_of (Data offset at len) pool = refl
end_of EndOfFile pool = refl
end_of (ExtendedSegmentAddress a) pool = refl
end_of (StartSegmentAddress cs ip) pool = refl
end_of (ExtendedLinearAddress a) pool = refl
end_of (StartLinearAddress a) pool = refl

stops_of : (r : Record) (pool : List ℕ) → Sayable (meant r pool) → stops default_options (said_of (meant r pool)) ≡ object.is_end r
unfolding stops
stops_of r pool h = ap (λ (m : Meaning). is_end m && true) (reads_back (meant r pool) h).means ∙ and_true (is_end (meant r pool)) ∙ end_of r pool

not_first : (r q : Record) (rs : List Record) → object.ends_in_end (r ∷ q ∷ rs) ≡ true → object.ends (r ∷ q ∷ rs) ≡ 1 → (object.is_end r ≡ false) × (object.ends (q ∷ rs) ≡ 1)
unfolding object.ends_in_end object.ends
not_first r q rs e o = go (object.is_end r) refl (one_at_least (q ∷ rs) e) o
  where
    go : (b : Bool) → object.is_end r ≡ b → 1 ≤ object.ends (q ∷ rs) → (if b then 1 else 0) + object.ends (q ∷ rs) ≡ 1 → (object.is_end r ≡ false) × (object.ends (q ∷ rs) ≡ 1)
    go true b l o = absurd (omega arith)
    go false b l o = (b, omega arith)

all_read : (n : ℕ) (rs : List Record) (pool : List ℕ) → Every (λ r. Sayable (meant r pool)) rs → object.ends_in_end rs ≡ true → object.ends rs ≡ 1
    → through_stop default_options (spoken n rs pool) ≡ spoken n rs pool
unfolding through_stop spoken object.ends_in_end
all_read n [] pool h e o = refl
all_read n (r ∷ []) pool h e o = both_ways (λ b. on n (said_of (meant r pool)) ∷ (if b then [] else []) ≡ on n (said_of (meant r pool)) ∷ []) (stops default_options (said_of (meant r pool))) refl refl
all_read n (r ∷ q ∷ rs) pool (h, hs) e o =
    let (f, o') = not_first r q rs e o in
    let s : stops default_options (said_of (meant r pool)) ≡ false = stops_of r pool h ∙ f in
    rw s (ap (λ (l : List Numbered). on n (said_of (meant r pool)) ∷ l) (all_read (suc n) (q ∷ rs) pool hs e o'))

-- ---- the row

-- records that have their lines can be said in them
pub every_sayable : (rs : List Record) (pool : List ℕ) → Every InRange rs → Every Byte pool → Every (λ r. line_refusal r (length pool) ≡ none) rs → Every (λ r. Sayable (meant r pool)) rs
every_sayable [] pool i b f = tt
every_sayable (r ∷ rs) pool (i, is) b (f, fs) = (sayable r pool i b f, every_sayable rs pool is b fs)

-- what the lines of an object's text say
pub said_in : (rs : List Record) (pool cs : List ℕ) → Every (λ r. Sayable (meant r pool)) rs → cs ≡ object.joined_lines rs pool → sayings 1 (lines cs) ≡ spoken 1 rs pool
said_in rs pool cs h e =
    ap (λ (t : List ℕ). sayings 1 (lines t)) e
    ∙ ap (sayings 1) (lines_of rs pool)
    ∙ sayings_of 1 rs pool h

pub spoken_row : SpokenRow
unfolding row
spoken_row rs pool cs i b e =
    let w = object_whole rs pool cs e in
    let h = every_sayable rs pool i b w.fine in
    ap (through_stop default_options) (said_in rs pool cs h w.lined) ∙ all_read 1 rs pool h w.ended w.one
