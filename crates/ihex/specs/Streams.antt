-- Calls of `ihex_feed` and `ihex_commit` on a stream, dump after dump, and what is claimed of them, proved in `proofs/Streams.antt`.
-- Assumes nothing.
use Rattle.std.specs.Prelude.{ℕ, suc, ◌^◌, ◌<◌, ◌≡◌, ◌⊎◌, Bool, false, List, [], ◌∷◌, ◌++◌, map, length, drop}
use Rattle.std.specs.Prelude.{if◌then◌else◌}
use Rattle.reader.specs.Lines.{lines}
use Rattle.window.specs.Window.{unfit, within}
use Rattle.intake.specs.declared.Kind.{Kind}
use Rattle.intake.specs.Ways.{way_of}
use Rattle.listen.specs.Listen.{Mode, Saying, first as saying-first, listen}
use Rattle.listen.specs.Calls.{verdict_of, first_mode}
use Rattle.codes.specs.declared.Stand.{Stand}
use Rattle.codes.specs.Codes.{OK, USED_UP, LoadNumbers, load_numbers}
use Rattle.codes.specs.Listeners.{stands_for, PASSED}
use Rattle.ihex.specs.Listening.{seven, IhexFeed, IhexCommit}
use Rattle.ihex.specs.Listeners.{at_front, skipping, Decides}

-- `ihex_commit` writes the flags alone
abbrev pub with_flags : (flags : ℕ) → Stand → Stand
with_flags flags s = seven flags s.skipped s.base s.begin s.lines s.used s.records

-- calls on a stream, each with the numbers and buffers that the one before left, and the rest of a chunk given to the next call: these are the numbers of
-- the dumps that were decided, and this is left. A dump may be committed where one is ready
pub data IhexCalls (first : ℕ) (s₀ : Stand) (carry₀ stage₀ stated₀ stream : List ℕ) : (decided : List LoadNumbers) (left : List ℕ) (s : Stand) (carry stage stated : List ℕ) → Type 0 where
  none_yet : IhexCalls first s₀ carry₀ stage₀ stated₀ stream [] stream s₀ carry₀ stage₀ stated₀
  going_on : {decided : List LoadNumbers} {left : List ℕ} {s : Stand} {carry stage stated : List ℕ}
      (chunk more : List ℕ) (taken : ℕ) (s' : Stand) (r : LoadNumbers) (carry' stage' stated' : List ℕ)
      → IhexCalls first s₀ carry₀ stage₀ stated₀ stream decided left s carry stage stated → left ≡ chunk ++ more
      → IhexFeed (stands_for s) chunk carry first stage stated taken s' r carry' stage' stated' → (r.code ≡ USED_UP) ⊎ (r.code ≡ PASSED)
      → IhexCalls first s₀ carry₀ stage₀ stated₀ stream decided (drop taken chunk ++ more) s' carry' stage' stated'
  deciding : {decided : List LoadNumbers} {left : List ℕ} {s : Stand} {carry stage stated : List ℕ}
      (chunk more : List ℕ) (taken : ℕ) (s' : Stand) (r : LoadNumbers) (carry' stage' stated' : List ℕ)
      → IhexCalls first s₀ carry₀ stage₀ stated₀ stream decided left s carry stage stated → left ≡ chunk ++ more
      → IhexFeed (stands_for s) chunk carry first stage stated taken s' r carry' stage' stated' → Decides r.code
      → IhexCalls first s₀ carry₀ stage₀ stated₀ stream (decided ++ (r ∷ [])) (drop taken chunk ++ more) s' carry' stage' stated'
  committing : {decided : List LoadNumbers} {left : List ℕ} {s : Stand} {carry stage stated : List ℕ}
      (page marks : List ℕ) (code flags : ℕ) (page' marks' : List ℕ)
      → IhexCalls first s₀ carry₀ stage₀ stated₀ stream decided left s carry stage stated → IhexCommit s.flags stage stated page marks code flags page' marks' → code ≡ OK
      → IhexCalls first s₀ carry₀ stage₀ stated₀ stream decided left (with_flags flags s) carry stage stated

-- at a known beginning, or at an unknown place
abbrev pub first_stand : Kind → (known : Bool) → Stand
first_stand kind known = if known then at_front kind else skipping kind

-- what was decided, call by call, is in numbers what `listen` says first of the lines of the stream; the rest of what it says is said of the dump that is
-- open and of what is left. So what is claimed of `listen` holds of the calls: a tail is never ready, and a refusal costs at most one good dump
abbrev pub IhexCallsListen : Type 0
IhexCallsListen =
    (kind : Kind) (known : Bool) (first : ℕ) (carry₀ stage₀ stated₀ stream : List ℕ) → unfit first (length stage₀) (length stated₀) ≡ false → suc (length stream) < 2 ^ 64
    → (decided : List LoadNumbers) (left : List ℕ) (s : Stand) (carry stage stated : List ℕ)
    → IhexCalls first (first_stand kind known) carry₀ stage₀ stated₀ stream decided left s carry stage stated
    → let src = (way_of kind false).source in
    let inside = within first (length stage₀) in
    (says : List Saying) × (mode : Mode (way_of kind false).State) × (begun : List ℕ)
    × (map load_numbers (map verdict_of says) ≡ decided)
    × (listen src inside (first_mode known) (lines stream) ≡ saying-first says (listen src inside mode (lines (begun ++ left))))
