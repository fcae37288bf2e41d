-- A tail of a good dump that begins within a line: what is kept of that line is no end record.
-- Assumes nothing.
use Prim.Native.Nat.{ℕ, suc}
use mathlib.Core.Path.{◌≡◌, refl, sym, ap, ◌∙◌}
use mathlib.Core.Logic.{◌≢◌}
use mathlib.Core.Bool.{Bool, true, false}
use mathlib.Core.Option.{some}
use mathlib.Core.List.{List, [], ◌∷◌, ◌++◌, append_assoc}
use native.Mathlib.Omega.{arith}
use lib.Dec.{eqb}
use lib.ListN.{length}
use borrow.Author.Tests.{eqb-true}
use Rattle.std.specs.Prelude.{if◌then◌else◌}
use Rattle.digits.specs.Digits.{between, digit, is_digit, all_digits, leading}
use Rattle.digits.specs.Reading.{named}
use Rattle.digits.proofs.Tests.{and_false}
use Rattle.record.specs.Refusals.{Refusal, missing_start_code, contains_invalid_characters}
use Rattle.record.specs.Line.{Said, wrong, invalid, judge, judge_digits}
use Rattle.srec.specs.Line.{judge as s-judge, judge_typed}
use Rattle.steps.specs.Steps.{fails, nothing_yet, Tally, accepted, by, decision}
use Rattle.steps.specs.Source.{Source}
use Rattle.intel.specs.Placing.{act, intel_by, intel}
use Rattle.srecload.specs.Placing.{s_act, s_records}
use Rattle.intake.specs.Past.{EndsAlike}
use Rattle.listen.specs.Listen.{front, skipping, Listened, silent, is_end, listen}
use Rattle.listen.specs.Skipping.{dump_steps}
use Rattle.listen.specs.Claims.{DecidedByLast, EndsWhole, CutTailIsSkipped, CutTailNeverReady, HexEndsWhole, SRecordsEndWhole}
use Rattle.listen.proofs.Exactly.{skips_on}
use Rattle.listen.proofs.Closing.{Met, met_there, good_met}
use Rattle.listen.proofs.Claims.{tail_never_ready}

module _ {S : Type 0} (src : Source S) (inside : ℕ → Bool) (alike : EndsAlike src) (whole : EndsWhole src) where
  -- what is kept of a line that a load met is no end record
  no_end : (c : ℕ) (lost kept : List ℕ) → (b : Bool) × Met src (c ∷ (lost ++ kept)) b → is_end src kept ≡ false
  no_end c lost kept (b, (s, e, not_refused)) = go (is_end src kept) refl
    where
      go : (x : Bool) → is_end src kept ≡ x → is_end src kept ≡ false
      go true q = let (r, f) = whole s c lost kept q in absurd (not_refused r f)
      go false q = q

  module _ (ahead later : List (List ℕ)) (c : ℕ) (lost kept : List ℕ) (t : Tally) (e : DecidedByLast src inside (ahead ++ ((c ∷ (lost ++ kept)) ∷ later)) (accepted t)) where
    line : List ℕ
    line = c ∷ (lost ++ kept)

    -- it is skipped
    passes : (ls : List (List ℕ)) → listen src inside skipping (kept ∷ ls) ≡ listen src inside skipping ls
    unfolding line
    passes ls = skips_on src inside kept ls (no_end c lost kept (met_there src ahead later line (good_met src inside (ahead ++ (line ∷ later)) t e)))

    -- and the lines after it are a tail from a line on
    the_rest : (more : List (List ℕ)) → later ≢ [] → (listen src inside skipping later ≡ silent front) × (listen src inside skipping (later ++ more) ≡ listen src inside front more)
    unfolding line
    the_rest more ne =
        tail_never_ready S src inside alike (ahead ++ (line ∷ [])) later more t
        (ap (λ (ls : List (List ℕ)). decision inside nothing_yet (dump_steps src ls)) (append_assoc ahead (line ∷ []) later) ∙ e ∙ ap (λ (ls : List (List ℕ)). some (by (length ls) (accepted t))) (sym (append_assoc ahead (line ∷ []) later)))
        ne

    silently : (ls : List (List ℕ)) → later ≡ ls → (listen src inside skipping later).says ≡ []
    unfolding listen
    silently [] q = ap (λ (x : List (List ℕ)). (listen src inside skipping x).says) q
    silently (x ∷ xs) q =
        let ne : later ≢ [] = λ p. let z : ◌≡◌ {A = ℕ} 0 1 = cc in omega arith in
        ap (λ (h : Listened S). h.says) (the_rest [] ne).0

  cut_tail_is_skipped : CutTailIsSkipped src inside
  cut_tail_is_skipped ahead later more c lost kept t e = (
    ap (λ (h : Listened S). h.says) (passes ahead later c lost kept t e later) ∙ silently ahead later c lost kept t e later refl,
    λ ne. passes ahead later c lost kept t e (later ++ more) ∙ (the_rest ahead later c lost kept t e more ne).1,
    λ n. passes ahead later c lost kept t e (later ++ more) ∙ ap (λ (x : List (List ℕ)). listen src inside skipping (x ++ more)) n,
  )

pub cut_tail_never_ready : CutTailNeverReady
cut_tail_never_ready S src inside alike whole = cut_tail_is_skipped src inside alike whole

-- ---- both kinds of text

-- a byte that is no digit, among others
not_all : (before rest : List ℕ) (d : ℕ) → is_digit d ≡ false → all_digits (before ++ (d ∷ rest)) ≡ false
unfolding all_digits
not_all [] rest d e = rw e
not_all (c ∷ before) rest d e = rw (not_all before rest d e) (and_false (is_digit c))

-- what is said of such a row after a first byte, whichever that is
refused_so : (starts : Bool) (x : Said) (cs : List ℕ) → x ≡ invalid cs → (r : Refusal) × ((if starts then x else wrong missing_start_code) ≡ wrong r)
refused_so true x cs e = (contains_invalid_characters (named (suc (leading cs))), e)
refused_so false x cs e = (missing_start_code, refl)

-- a colon, and an S, are no digits
no_digit : (d start : ℕ) → eqb d start ≡ true → is_digit start ≡ false → is_digit d ≡ false
no_digit d start e h = ap is_digit (eqb-true d start e) ∙ h

pub hex_ends_whole : HexEndsWhole
unfolding intel_by act judge judge_digits is_end digit between
hex_ends_whole base c before [] e = let z : ◌≡◌ {A = ℕ} 0 1 = cc in absurd (omega arith)
hex_ends_whole base c before (d ∷ rest) e = go (eqb d 58) refl
  where
    cs : List ℕ
    cs = before ++ (d ∷ rest)

    go : (b : Bool) → eqb d 58 ≡ b → (r : Refusal) × (intel.act base (c ∷ cs) ≡ fails r ∷ [])
    go true q =
        let x : judge_digits cs ≡ invalid cs = rw (not_all before rest d (no_digit d 58 q refl)) in
        let (r, f) = refused_so (eqb c 58) (judge_digits cs) cs x in
        (r, ap (act base) f)
    go false q = let f = rw q at e in let z : ◌≡◌ {A = ℕ} 0 1 = cc in absurd (omega arith)

pub s_records_end_whole : SRecordsEndWhole
unfolding s_records s_act s-judge is_end digit between
s_records_end_whole s c before [] e = let z : ◌≡◌ {A = ℕ} 0 1 = cc in absurd (omega arith)
s_records_end_whole s c before (d ∷ rest) e = go (eqb d 83) refl
  where
    cs : List ℕ
    cs = before ++ (d ∷ rest)

    typed : Said
    typed = if all_digits cs then judge_typed cs else invalid cs

    go : (b : Bool) → eqb d 83 ≡ b → (r : Refusal) × (s_records.act s (c ∷ cs) ≡ fails r ∷ [])
    go true q =
        let x : typed ≡ invalid cs = rw (not_all before rest d (no_digit d 83 q refl)) in
        let (r, f) = refused_so (eqb c 83) typed cs x in
        (r, ap s_act f)
    go false q = let f = rw q at e in let z : ◌≡◌ {A = ℕ} 0 1 = cc in absurd (omega arith)
