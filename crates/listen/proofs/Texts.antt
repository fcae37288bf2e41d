-- What is heard of a text's lines, where a load of the text is decided and where it ends.
-- Assumes nothing.
use Prim.Native.Nat.{ℕ, zero, suc, ◌≤◌}
use mathlib.Core.Path.{◌≡◌, refl, sym, ap, ◌∙◌}
use mathlib.Core.Bool.{Bool, true, false}
use mathlib.Core.Option.{Option, none, some, map}
use mathlib.Core.List.{List, [], ◌∷◌, ◌++◌}
use native.Mathlib.Omega.{arith}
use lib.Dec.{eqb}
use lib.ListN.{length, drop, drop_of_length-le}
use lib.Seq.{drop-append_seam}
use Rattle.std.specs.Prelude.{if◌then◌else◌}
use Rattle.reader.specs.Lines.{LF, ends_line, first_line, lines, later, through}
use Rattle.reader.proofs.Cutting.{lines_closed, through_head}
use Rattle.steps.specs.Steps.{nothing_yet, Verdict, accepted, refused, Decision, by, decision, verdict, stated}
use Rattle.steps.specs.Source.{Source, steps_of}
use Rattle.intake.specs.Past.{past}
use Rattle.listen.specs.Listen.{front, skipping, Saying, said, reaching, mode_after, Listened, silent, first, hear, listen, pause, stretch}
use Rattle.listen.specs.Skipping.{dump_steps}
use Rattle.listen.specs.Claims.{Begins}
use Rattle.listen.specs.Texts.{decided_by, LeftAfter, DropsEmptyLines, HearsADump, HearsATail, PausesInADump, PausesInATail}
use Rattle.listen.proofs.Fronts.{FrontWaits, FrontDecides, front_waits, front_decides}
use Rattle.listen.proofs.Exactly.{has_byte}
use Rattle.listen.proofs.Passing.{skips_as_past}

-- ---- the lines of a text

-- after the LF of line n stand the later lines
left_lines : (n : ℕ) (text left : List ℕ) → LeftAfter n text left → drop n (lines text) ≡ lines left
left_lines n text left (head, t, e) =
    let h = through_head n text head t in
    ap (λ (x : List ℕ). drop n (lines x)) (sym e)
    ∙ ap (drop n) (lines_closed h.whole left)
    ∙ ap (λ (k : ℕ). drop k (lines head ++ lines left)) (sym h.count)
    ∙ drop-append_seam (lines head) (lines left)

-- with no n-th LF there are n lines at most
abbrev Few : (text : List ℕ) → Type 0
Few text = ((n : ℕ) → through n text ≡ none → length (lines text) ≤ n) × ((n : ℕ) → through (suc n) text ≡ none → length (later text) ≤ n)

few_lines : (text : List ℕ) → Few text
unfolding lines through
few_lines [] = (λ n e. omega arith, λ n e. omega arith)
few_lines (c ∷ text) = (λ n. go n (few_lines text), λ n. step n (few_lines text) (eqb c LF))
  where
    nothing : (o : Option (List ℕ)) → map (λ part. c ∷ part) o ≡ none → o ≡ none
    nothing none e = refl
    nothing (some x) e = let z : ◌≡◌ {A = ℕ} 0 1 = cc in absurd (omega arith)

    step : (n : ℕ) → Few text → (b : Bool) → map (λ part. c ∷ part) (if b then through n text else through (suc n) text) ≡ none
        → length (if b then lines text else later text) ≤ n
    step n few true e = few.0 n (nothing (through n text) e)
    step n few false e = few.1 n (nothing (through (suc n) text) e)

    go : (n : ℕ) → Few text → through n (c ∷ text) ≡ none → length (lines (c ∷ text)) ≤ n
    go zero few e = let z : ◌≡◌ {A = ℕ} 0 1 = cc in absurd (omega arith)
    go (suc n) few e = omega (arith, step n few (eqb c LF) e)

no_lines_left : (n : ℕ) (text : List ℕ) → through n text ≡ none → drop n (lines text) ≡ []
no_lines_left n text e = drop_of_length-le (lines text) {i = n} ((few_lines text).0 n e)

pub drops_empty_lines : DropsEmptyLines
unfolding lines first_line ends_line listen hear
drops_empty_lines S src inside text = (refl, refl)

-- ---- dumps

module _ {S : Type 0} (src : Source S) (inside : ℕ → Bool) where
  -- lines that begin a dump are decided by line n
  dump_decided : (ls : List (List ℕ)) (n : ℕ) (v : Verdict) → Begins ls → decision inside nothing_yet (dump_steps src ls) ≡ some (by n v) → FrontDecides src inside ls n v
  dump_decided [] n v b e = absurd b
  dump_decided ([] ∷ ls) n v b e = absurd b
  dump_decided ((c ∷ l) ∷ ls) n v b e = front_decides src inside (c ∷ l) ls n v (has_byte c l) e

  dump_waits : (ls : List (List ℕ)) → Begins ls → decision inside nothing_yet (dump_steps src ls) ≡ none → FrontWaits src inside ls
  dump_waits [] b e = absurd b
  dump_waits ([] ∷ ls) b e = absurd b
  dump_waits ((c ∷ l) ∷ ls) b e = front_waits src inside (c ∷ l) ls (has_byte c l) e

  -- with a pause after it
  abbrev paused : Listened S → Listened S
  paused h = first h.says (pause h.mode)

  paused_after : (v : Verdict) (s : Saying) → paused (first (s ∷ []) (listen src inside (mode_after v) [])) ≡ record { says = s ∷ []; mode = front }
  unfolding listen
  paused_after (accepted t) s = refl
  paused_after (refused r n) s = refl

  -- the answer to lines with which the text ends
  abbrev answer : Verdict → List (List ℕ) → Listened S
  answer v ls = record { says = said v (reaching v (stated (dump_steps src ls))) ∷ []; mode = front }

  dump_paused : (ls : List (List ℕ)) → Begins ls → ((n : ℕ) (v : Verdict) → decision inside nothing_yet (dump_steps src ls) ≡ some (by n v) → drop n ls ≡ [])
      → (o : Option Decision) → decision inside nothing_yet (dump_steps src ls) ≡ o → stretch src inside front ls ≡ answer (verdict o) ls
  unfolding verdict
  dump_paused ls b w none e = ap paused (dump_waits ls b e).heard
  dump_paused ls b w (some (by n v)) e =
      let s : Saying = said v (reaching v (stated (dump_steps src ls))) in
      ap paused (dump_decided ls n v b e).heard
      ∙ ap (λ (x : List (List ℕ)). paused (first (s ∷ []) (listen src inside (mode_after v) x))) (w n v e)
      ∙ paused_after v s

  tail_paused : (ls : List (List ℕ)) → ((n : ℕ) (v : Verdict) → decision inside nothing_yet (dump_steps (past src) ls) ≡ some (by n v) → drop n ls ≡ [])
      → (o : Option Decision) → decision inside nothing_yet (dump_steps (past src) ls) ≡ o → stretch src inside skipping ls ≡ silent front
  unfolding listen
  tail_paused ls w none e = ap paused ((skips_as_past S src inside ls).0 e)
  tail_paused ls w (some (by n v)) e = ap paused (((skips_as_past S src inside ls).1 n v e).3 ∙ ap (listen src inside front) (w n v e))

pub hears_a_dump : HearsADump
unfolding steps_of
hears_a_dump S src inside text left n v b e l =
    (dump_decided src inside (lines text) n v b e).heard
    ∙ ap (λ (x : List (List ℕ)). first (said v (reaching v (stated (dump_steps src (lines text)))) ∷ []) (listen src inside (mode_after v) x)) (left_lines n text left l)

pub hears_a_tail : HearsATail
unfolding steps_of
hears_a_tail S src inside text left n v e l = ((skips_as_past S src inside (lines text)).1 n v e).3 ∙ ap (listen src inside front) (left_lines n text left l)

pub pauses_in_a_dump : PausesInADump
unfolding steps_of
pauses_in_a_dump S src inside text b w =
    dump_paused src inside (lines text) b (λ n v e. no_lines_left n text (w n v e)) (decided_by src inside text) refl

pub pauses_in_a_tail : PausesInATail
unfolding steps_of
pauses_in_a_tail S src inside text w = tail_paused src inside (lines text) (λ n v e. no_lines_left n text (w n v e)) (decided_by (past src) inside text) refl
