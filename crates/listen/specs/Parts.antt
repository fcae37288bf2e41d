-- Lines that were heard, part after part: each dump by itself, what was skipped, and a dump that no line has decided.
-- Assumes nothing.
use Rattle.std.specs.Prelude.{ℕ, ◌≡◌, Bool, List, [], ◌∷◌, ◌++◌, length}
use Rattle.std.proofs.Math.Option.{none, some}
use Rattle.steps.specs.Steps.{Placement, nothing_yet, Verdict, accepted, refused, by, decision, verdict, stated}
use Rattle.steps.specs.Source.{Source}
use Rattle.listen.specs.Listen.{Saying, said, reaching}
use Rattle.listen.specs.Skipping.{dump_steps}

-- a part: a dump with its verdict; lines that were skipped, or an empty one before a dump; or a dump that no line has decided
pub data Part : Type 0 where
  dump : (ls : List (List ℕ)) → Verdict → Part
  passed : (ls : List (List ℕ)) → Part
  begun : (ls : List (List ℕ)) → Part

-- its lines
abbrev pub lines_of : Part → List (List ℕ)
lines_of (dump ls v) = ls
lines_of (passed ls) = ls
lines_of (begun ls) = ls

-- what each part gives, one after the other
unfoldable pub all_of : {A : Type 0} → (Part → List A) → List Part → List A
all_of f [] = []
all_of f (p ∷ ps) = f p ++ all_of f ps

module _ {S : Type 0} (src : Source S) (inside : ℕ → Bool) where
  -- a load of a dump's lines alone is decided by the last of them, with that verdict; a load of lines that are begun is not decided
  abbrev pub AsLoad : Part → Type 0
  AsLoad (dump ls v) = decision inside nothing_yet (dump_steps src ls) ≡ some (by (length ls) v)
  AsLoad (passed ls) = Unit
  AsLoad (begun ls) = decision inside nothing_yet (dump_steps src ls) ≡ none

  -- what is said of a part: of an accepted dump its verdict and what its own lines state, of a refused one its verdict alone, and of others nothing
  abbrev pub said_of : Part → List Saying
  said_of (dump ls v) = said v (reaching v (stated (dump_steps src ls))) ∷ []
  said_of (passed ls) = []
  said_of (begun ls) = []

  -- the same with a pause after it: what is begun has the verdict of a load whose text ends there
  abbrev pub said_in_all : Part → List Saying
  said_in_all (dump ls v) = said v (reaching v (stated (dump_steps src ls))) ∷ []
  said_in_all (passed ls) = []
  said_in_all (begun ls) = said (verdict (decision inside nothing_yet (dump_steps src ls))) [] ∷ []

  -- what of a part reaches the page: what the lines of an accepted dump state
  abbrev pub reaches_of : Part → List Placement
  reaches_of (dump ls (accepted t)) = stated (dump_steps src ls)
  reaches_of (dump ls (refused r n)) = []
  reaches_of (passed ls) = []
  reaches_of (begun ls) = []

-- what reaches the page by sayings, in order
unfoldable pub to_page : List Saying → List Placement
to_page [] = []
to_page (said v ps ∷ ss) = ps ++ to_page ss
