-- What a dump says is what its steps state: the places of the count hold, after an accepted load, what was stated for them.
-- Assumes nothing.
use Rattle.std.proofs.Common.{◌≡◌, ℕ, ◌+◌, Bool, true, false, eqb, ltb, List, length, get_or, refl, ap, ◌∙◌, arith, ltb-false, ltb-true, eqb-true}
use mathlib.Core.Option
use mathlib.Core.Option.{Option, none, some}
use Rattle.std.specs.Prelude.{if◌then◌else◌}
use Rattle.record.specs.Refusals.{bad_window}
use Rattle.marks.specs.Marks.{mark_at}
use Rattle.steps.specs.Steps.{Tally, Verdict, accepted, refused, verdict, stated}
use Rattle.steps.specs.Source.{Source, steps_of}
use Rattle.steps.specs.Sites.{Loaded, last_at, mark}
use Rattle.window.specs.Window.{window}
use Rattle.window.specs.Load.{stopping_by_window, load_window}
use Rattle.window.proofs.Loads.{load_answer, marked_below, at_place}
use Rattle.light.specs.declared.Light.{Light}
use Rattle.light.specs.Colors.{refused_one}
use Rattle.light.specs.Light.{load_for, count_in, said_in, outcome}
use Rattle.light.specs.Claims.{count_of, stated_for, said_by, said}

-- what a place says: it is not marked; or it is, and holds the byte
abbrev Says : (page marks : List ℕ) (p : ℕ) → Option ℕ → Type 0
Says page marks p none = eqb (mark_at marks p) 1 ≡ false
Says page marks p (some b) = (eqb (mark_at marks p) 1 ≡ true) × (get_or page p 0 ≡ b)

-- two places that say so
counted_so : (page marks : List ℕ) (high low : ℕ) (h l : Option ℕ) → Says page marks high h → Says page marks low l → count_in high low page marks ≡ count_of h l
unfolding count_in
counted_so page marks high low none l x y = rw x
counted_so page marks high low (some h) none (x, p) y = rw (x, y)
counted_so page marks high low (some h) (some l) (x, p) (y, q) = rw (x, y, p, q)

-- a mark that is not 1
not_marked : (m : ℕ) → ¬ (m ≡ 1) → eqb m 1 ≡ false
not_marked m n = go (eqb m 1) refl
  where
    go : (b : Bool) → eqb m 1 ≡ b → b ≡ false
    go true e = absurd (n (eqb-true m 1 e))
    go false e = refl

module _ {S : Type 0} (src : Source S) (text : List ℕ) (first : ℕ) (page marks : List ℕ) (t : Tally) (e : (load_window src text first page marks).answer ≡ accepted t) where
  abbrev done : Loaded
  done = load_window src text first page marks

  -- by what was stated last at its address
  by_last : (p : ℕ) (o : Option ℕ) → mark_at done.marks p ≡ mark o → get_or done.page p 0 ≡ Option.get_or o (get_or page p 0) → Says done.page done.marks p o
  unfolding mark
  by_last p none m b = rw m
  by_last p (some x) m b = (rw m, b)

  says : (p : ℕ) → Says done.page done.marks p (stated_for (window first (length page) p) (stated (steps_of src text)))
  unfolding window
  says p = go (ltb p (length page)) refl
    where
      go : (b : Bool) → ltb p (length page) ≡ b → Says done.page done.marks p (stated_for (if b then some (first + p) else none) (stated (steps_of src text)))
      go true q =
          let (m, b) = at_place src text first page marks t e p (ltb-true p (length page) q) in
          by_last p (last_at (first + p) (stated (steps_of src text))) m b
      go false q = not_marked (mark_at done.marks p) (λ m. let h = marked_below src text first page marks t e p m in let l = ltb-false p (length page) q in omega arith)

-- what a dump comes to is what it says
pub outcome_is_said : {S : Type 0} (src : Source S) (l : Light) (text page marks : List ℕ) → outcome src l text page marks ≡ said l (steps_of src text) (length page) (length marks)
unfolding outcome load_for said said_in said_by stopping_by_window
outcome_is_said src l text page marks = go (eqb (length page) l.length)
  where
    judged : (v : Verdict) → (load_window src text l.first page marks).answer ≡ v
        → said_in l.high l.low v (load_window src text l.first page marks).page (load_window src text l.first page marks).marks
        ≡ said_by (window l.first (length page)) l.high l.low (stated (steps_of src text)) v
    judged (refused r n) e = refl
    judged (accepted t) e =
        let d = load_window src text l.first page marks in
        counted_so d.page d.marks l.high l.low (stated_for (window l.first (length page) l.high) (stated (steps_of src text)))
        (stated_for (window l.first (length page) l.low) (stated (steps_of src text))) (says src text l.first page marks t e l.high) (says src text l.first page marks t e l.low)

    go : (b : Bool) → let d : Loaded = if b then load_window src text l.first page marks else record { answer = refused bad_window 0; page = page; marks = marks } in
        said_in l.high l.low d.answer d.page d.marks
        ≡ (if b then said_by (window l.first (length page)) l.high l.low (stated (steps_of src text)) (verdict (stopping_by_window src text l.first page marks)) else refused_one)
    go true =
        let d = load_window src text l.first page marks in
        ap (λ v. said_in l.high l.low v d.page d.marks) (load_answer src text l.first page marks)
        ∙ judged (verdict (stopping_by_window src text l.first page marks)) (load_answer src text l.first page marks)
    go false = refl
