-- What is lost and what is not, on the laws of a dump from its first line on and of its end record.
-- Assumes nothing.
use Prim.Native.Nat.{ℕ}
use mathlib.Core.Path.{◌≡◌, refl, sym, ap, ◌∙◌}
use mathlib.Core.Logic.{◌≢◌}
use mathlib.Core.Bool.{Bool, true, false}
use mathlib.Core.List.{List, [], ◌∷◌, ◌++◌, map, append_assoc, append-nil}
use native.Mathlib.Omega.{arith}
use lib.ListN.{length}
use lib.Seq.{drop-length}
use Rattle.steps.specs.Steps.{Verdict, accepted, refused, stated}
use Rattle.steps.specs.Source.{Source}
use Rattle.intake.specs.Past.{EndsAlike}
use Rattle.listen.specs.Listen.{Mode, front, within, skipping, Saying, said, reaching, mode_after, Listened, first, is_end, listen, pause, stretch, listen_on}
use Rattle.listen.specs.Skipping.{dump_steps, NoneEnds}
use Rattle.listen.specs.Claims.{IsDump, Good, says_load, in_a_row, RowIsSaid, TailIsSkipped, OneIsLost, NoneIsLost, NeverTwo, KnownAfterAPause, GoodAreSaid, TailNeverReady, CostsOne, NoneAfterAPause}
use Rattle.listen.proofs.Following.{listen_append}
use Rattle.listen.proofs.Fronts.{front_decides}
use Rattle.listen.proofs.Exactly.{has_byte, skips_on, skips_last, skips_all}
use Rattle.listen.proofs.Closing.{nothing_left, Closed, closed_tail, good_closed}

module _ {S : Type 0} (src : Source S) (inside : ℕ → Bool) where
  first_twice : (ss ts : List Saying) (h : Listened S) → first ss (first ts h) ≡ first (ss ++ ts) h
  first_twice ss ts h = ap (λ (x : List Saying). record { says = x; mode = h.mode }) (sym (append_assoc ss ts h.says))

  -- ---- a dump at a known beginning

  alone : (ls : List (List ℕ)) (v : Verdict) → IsDump src inside ls v
      → listen src inside front ls ≡ record { says = said v (reaching v (stated (dump_steps src ls))) ∷ []; mode = mode_after v }
  unfolding listen
  alone [] v i = absurd i.begins
  alone ([] ∷ ls) v i = absurd i.begins
  alone ((c ∷ l) ∷ ls) v i =
      let d = front_decides src inside (c ∷ l) ls (length ((c ∷ l) ∷ ls)) v (has_byte c l) i.decided in
      d.heard ∙ ap (λ (x : List (List ℕ)). first (said v (reaching v (stated (dump_steps src ((c ∷ l) ∷ ls)))) ∷ []) (listen src inside (mode_after v) x)) (drop-length ((c ∷ l) ∷ ls))

  said_first : (ls more : List (List ℕ)) (v : Verdict) → IsDump src inside ls v
      → listen src inside front (ls ++ more) ≡ first (said v (reaching v (stated (dump_steps src ls))) ∷ []) (listen src inside (mode_after v) more)
  said_first ls more v i =
      listen_append src inside front ls more ∙ ap (λ (h : Listened S). first h.says (listen src inside h.mode more)) (alone ls v i)

  row_is_said : RowIsSaid src inside
  unfolding in_a_row
  row_is_said [] more = refl
  row_is_said (d ∷ ds) more =
      ap (listen src inside front) (append_assoc d.lines (in_a_row src inside ds) more)
      ∙ said_first d.lines (in_a_row src inside ds ++ more) (accepted d.tally) d.is_dump
      ∙ ap (first (says_load src inside d ∷ [])) (row_is_said ds more)

  -- ---- skipping

  -- lines of which the last is the one end record are skipped whole
  skips_closed : (ls more : List (List ℕ)) → Closed src ls → listen src inside skipping (ls ++ more) ≡ listen src inside front more
  skips_closed [] more h = absurd h
  skips_closed (line ∷ []) more h = skips_last src inside line more h
  skips_closed (line ∷ (line' ∷ ls)) more h = skips_on src inside line ((line' ∷ ls) ++ more) h.0 ∙ skips_closed (line' ∷ ls) more h.1

  module _ (alike : EndsAlike src) where
    closed : (d : Good src inside) → Closed src d.lines
    closed d = good_closed src inside d.lines d.tally d.is_dump.decided alike

    tail_is_skipped : TailIsSkipped src inside
    unfolding listen
    tail_is_skipped ahead tail more t e ne =
        let c = closed_tail src ahead tail ne (good_closed src inside (ahead ++ tail) t e alike) in
        (ap (listen src inside skipping) (sym (append-nil tail)) ∙ skips_closed tail [] c, skips_closed tail more c)

    one_is_lost : OneIsLost src inside
    unfolding in_a_row
    one_is_lost dump noise r n d ds more i h =
        said_first dump (noise ++ (in_a_row src inside (d ∷ ds) ++ more)) (refused r n) i
        ∙ ap (first (said (refused r n) [] ∷ []))
        (skips_all src inside noise (in_a_row src inside (d ∷ ds) ++ more) h
        ∙ ap (listen src inside skipping) (append_assoc d.lines (in_a_row src inside ds) more)
        ∙ skips_closed d.lines (in_a_row src inside ds ++ more) (closed d)
        ∙ row_is_said ds more)

    none_is_lost : NoneIsLost src inside
    none_is_lost dump noise line r n ds more i h e =
        said_first dump (noise ++ (line ∷ (in_a_row src inside ds ++ more))) (refused r n) i
        ∙ ap (first (said (refused r n) [] ∷ []))
        (skips_all src inside noise (line ∷ (in_a_row src inside ds ++ more)) h
        ∙ skips_last src inside line (in_a_row src inside ds ++ more) e
        ∙ row_is_said ds more)

    -- lines that are skipped through an end record, from one of them on
    from_there : (ahead before rest : List (List ℕ)) (line : List ℕ) → NoneEnds src ahead → rest ≢ [] → ahead ++ (line ∷ []) ≡ before ++ rest
        → (ahead' : List (List ℕ)) × NoneEnds src ahead' × (ahead' ++ (line ∷ []) ≡ rest)
    from_there ahead [] rest line h ne e = (ahead, h, e)
    from_there [] (x ∷ before) rest line h ne e = absurd (ne (nothing_left before rest (cc)))
    from_there (a ∷ ahead) (x ∷ before) rest line h ne e = from_there ahead before rest line h.1 ne (cc)

    -- lines among them that end with an end record are the last
    are_last : (ls ahead later : List (List ℕ)) (line : List ℕ) → Closed src ls → NoneEnds src ahead → ahead ++ (line ∷ []) ≡ ls ++ later → later ≡ []
    are_last [] ahead later line c h e = absurd c
    are_last (x ∷ []) [] later line c h e = cc
    are_last (x ∷ []) (a ∷ ahead) later line c h e =
        let p : a ≡ x = cc in
        let f : is_end src a ≡ false = h.0 in
        let z : true ≡ false = sym c ∙ ap (is_end src) (sym p) ∙ f in
        let y : ◌≡◌ {A = ℕ} 0 1 = cc in
        absurd (omega arith)
    are_last (x ∷ (y ∷ ls)) [] later line c h e = let z : ◌≡◌ {A = ℕ} 0 1 = cc in absurd (omega arith)
    are_last (x ∷ (y ∷ ls)) (a ∷ ahead) later line c h e = are_last (y ∷ ls) ahead later line c.1 h.1 (cc)

    not_empty : (ls later : List (List ℕ)) → Closed src ls → ls ++ later ≢ []
    not_empty [] later c e = c
    not_empty (x ∷ ls) later c e = let z : ◌≡◌ {A = ℕ} 0 1 = cc in omega arith

    never_two : NeverTwo src inside
    never_two ahead before later line d h e =
        let c = closed d in
        let (ahead', h', e') = from_there ahead before (d.lines ++ later) line h (not_empty d.lines later c) e in
        are_last d.lines ahead' later line c h' e'

  -- ---- pauses

  paused : (m : Mode S) → (pause m).mode ≡ front
  paused front = refl
  paused (within n st) = refl
  paused skipping = refl

  known_after_a_pause : KnownAfterAPause src inside
  unfolding listen_on
  known_after_a_pause m ls later ds more = (
    ap (λ (x : Mode S). first (stretch src inside m ls).says (listen_on src inside x later)) (paused (listen src inside m ls).mode),
    ap (λ (h : Listened S). first h.says (pause h.mode)) (row_is_said ds more) ∙ sym (first_twice (map (says_load src inside) ds) (listen src inside front more).says (pause (listen src inside front more).mode)),
  )

pub good_are_said : GoodAreSaid
good_are_said S src inside = row_is_said src inside

pub tail_never_ready : TailNeverReady
tail_never_ready S src inside alike = tail_is_skipped src inside alike

pub costs_one : CostsOne
costs_one S src inside alike = (one_is_lost src inside alike, none_is_lost src inside alike, never_two src inside alike)

pub none_after_a_pause : NoneAfterAPause
none_after_a_pause S src inside = known_after_a_pause src inside
