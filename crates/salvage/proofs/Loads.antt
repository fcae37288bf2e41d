-- The clean file, loaded: no line of it is refused by itself, and its last line ends the text.
-- Assumes nothing.
use Prim.Native.Nat.{ℕ}
use mathlib.Core.Path.{◌≡◌, refl, ap, ◌∙◌}
use mathlib.Core.Logic.{◌≢◌, ◌⊎◌, inl, inr}
use native.Mathlib.Omega.{arith}
use mathlib.Core.Bool.{Bool}
use mathlib.Core.Option.{some}
use mathlib.Core.List.{List, [], ◌∷◌, ◌++◌, map, Memᴰ}
use lib.ListN.{length}
use Rattle.digits.specs.Common.{Every}
use Rattle.record.specs.Refusals.{Refusal, number_of}
use Rattle.record.specs.Line.{wrong, judge}
use Rattle.record.specs.Meaning.{Meaning, end_of_file}
use Rattle.record.specs.Written.{Sayable, line_of}
use Rattle.record.proofs.Writing.{reads_back}
use Rattle.reader.specs.Lines.{lines}
use Rattle.steps.specs.Steps.{Tally, Verdict, accepted, refused}
use Rattle.steps.proofs.Firsts.{every_at}
use Rattle.window.specs.Window.{within}
use Rattle.window.specs.Reasons.{bad_one, no_end, at_line}
use Rattle.loader.specs.Load.{load}
use Rattle.intel.specs.Lines.{said_record, record_on, Stops, the_end, no_record, first_outside, start_differs}
use Rattle.loader.specs.Claims.{Why}
use Rattle.loader.proofs.Claims.{reasons}
use Rattle.intel.proofs.Puts.{none_ends}
use Rattle.salvage.specs.Salvage.{saved, clean}
use Rattle.salvage.specs.Claims.{OneEnd, the_last, ahead_of_it, CleanLoads}
use Rattle.salvage.proofs.Clean.{saved_ends, saved_sayable, clean_lines}

-- a line that gives a record
abbrev Good : List ℕ → Type 0
Good line = (r : Refusal) → judge line ≢ wrong r

all_good : (ms : List Meaning) → Every Sayable ms → Every Good (map line_of ms)
all_good [] h = tt
all_good (m ∷ ms) (s, h) = (λ r e. let q = (reads_back m s).said in let z : ◌≡◌ {A = ℕ} 0 1 = cc in omega arith, all_good ms h)

-- the last line is an end record
the_end_said : record_on (line_of end_of_file) ≡ some end_of_file
unfolding said_record
the_end_said = let r = reads_back end_of_file tt in ap said_record r.said ∙ ap some r.means

some_end : (ms : List Meaning) → OneEnd ms → Every (λ (line : List ℕ). record_on line ≢ some end_of_file) (map line_of ms) → ⊥
some_end ms the_last (n, h) = n the_end_said
some_end ms (ahead_of_it {m} {ms = rest} n o) (k, h) = some_end rest o h

pub clean_loads : CleanLoads
clean_loads text first page marks = go (reasons (clean text) first page marks) refl
  where
    inside : ℕ → Bool
    inside = within first (length page)

    Loads : Verdict → Type 0
    Loads v = ((tally : Tally) × (v ≡ accepted tally)) ⊎ ((r : Refusal) × (line : ℕ) × (v ≡ refused r line) × Memᴰ (number_of r) (16 ∷ 17 ∷ 21 ∷ []))

    good : Every Good (lines (clean text))
    good = rw (clean_lines text) (all_good (saved text) (saved_sayable text))

    at_stop : (ahead : List (List ℕ)) (line : List ℕ) (later : List (List ℕ)) → lines (clean text) ≡ ahead ++ (line ∷ later) → {n : ℕ} {v : Verdict} → Stops inside ahead line n v → Loads v
    at_stop ahead line later w (the_end tally e c) = inl (tally, refl)
    at_stop ahead line later w (no_record r b e) = absurd (every_at Good ahead line later (rw w at good) r e)
    at_stop ahead line later w {n} (first_outside before after p e i o) = inr (_, n, refl, Memᴰ.tail (Memᴰ.head refl))
    at_stop ahead line later w {n} (start_differs s first_start e h d) = inr (_, n, refl, Memᴰ.tail (Memᴰ.tail (Memᴰ.head refl)))

    go : {v : Verdict} → Why (clean text) first page marks v → v ≡ (load (clean text) first page marks).answer → Loads (load (clean text) first page marks).answer
    go (bad_one w) q = rw (← q) (inr (_, 0, refl, Memᴰ.head refl))
    go (no_end w all) q = absurd (some_end (saved text) (saved_ends text) (rw (clean_lines text) at (none_ends inside [] (lines (clean text)) all)))
    go (at_line n v w d) q = rw (← q) (at_stop d.ahead d.line d.later d.whole d.stops)
