-- The contracts of the C entry points on a listener: what a chunk, a pause and a commit come to in numbers, and what a light shows after them.
-- Assumes nothing.
use Rattle.std.specs.Prelude.{ℕ, ◌≡◌, List}
use Rattle.light.specs.declared.Light.{Light}
use Rattle.light.specs.declared.Dumped.{Dumped}
use Rattle.light.specs.Light.{told_color, told_count}
use Rattle.light.specs.After.{After}
use Rattle.listen.specs.declared.Listener.{Listener}
use Rattle.listen.specs.declared.Step.{Step}
use Rattle.listen.specs.Aliases.{Committed}
use Rattle.listen.specs.declared.CommitError.TheVariants as committed
use Rattle.listen.specs.Listener.{Hears, Pauses, Commits}
use Rattle.codes.specs.declared.Stand.{Stand}
use Rattle.codes.specs.Codes.{LoadNumbers}
use Rattle.codes.specs.Lights.{color_number, count_number}
use Rattle.codes.specs.Listeners.{listener_of, stand, stands_for, said_numbers, commit_code, answer_of}
use Rattle.std.specs.Prelude.{Err, Ok}

-- a listener in seven numbers
abbrev pub seven : (flags skipped base begin lines used records : ℕ) → Stand
seven flags skipped base begin lines used records =
    record { flags = flags; skipped = skipped; base = base; begin = begin; lines = lines; used = used; records = records }

-- the contract of `tell_said`: what is said, and the numbers of the listener, which stand for it
pub record TellSaid (step : Step) (s : Stand) (r : LoadNumbers) : Type 0 where
  pub numbers : r ≡ said_numbers step.said
  pub stand_is : s ≡ stand step.listener
  pub returns : stands_for s ≡ step.listener

-- a listener was fed a chunk: so many bytes were used, these are its numbers then, and this is said
pub record IhexFeed (l : Listener) (chunk carry : List ℕ) (first : ℕ) (stage stated : List ℕ) (taken : ℕ) (s : Stand) (r : LoadNumbers) (carry' stage' stated' : List ℕ) : Type 0 where
  pub step : Step
  pub hears : Hears l chunk carry first stage stated step carry' stage' stated'
  pub taken_is : taken ≡ step.used
  pub tells : TellSaid step s r

-- it was told of a pause
pub record IhexPause (l : Listener) (carry : List ℕ) (first : ℕ) (stage stated : List ℕ) (s : Stand) (r : LoadNumbers) (carry' stage' stated' : List ℕ) : Type 0 where
  pub step : Step
  pub pauses : Pauses l carry first stage stated step carry' stage' stated'
  pub tells : TellSaid step s r

-- the flags after a commit: they stay unless it was done
abbrev pub flags_after : (flags : ℕ) → Committed → ℕ
flags_after flags (Ok l) = (stand l).flags
flags_after flags (Err committed.NotReady) = flags
flags_after flags (Err committed.BadWindow) = flags

-- a dump was committed, if one was ready: of the listener the flags alone are read
pub record IhexCommit (flags : ℕ) (stage stated page marks : List ℕ) (r flags' : ℕ) (page' marks' : List ℕ) : Type 0 where
  pub committed : Committed
  pub commits : Commits (listener_of flags 0 0 0 0 0 0) stage stated page marks committed page' marks'
  pub answer : r ≡ commit_code committed
  pub flags_are : flags' ≡ flags_after flags committed

-- what a light shows after a load that returned this code, and the count that is known then
pub record IhexLightAfter (code : ℕ) (l : Light) (page marks : List ℕ) (color known : ℕ) : Type 0 where
  pub dumped : Dumped
  pub shows : After l (answer_of code) page marks dumped
  pub color_is : color ≡ color_number (told_color dumped.color)
  pub known_is : known ≡ count_number (told_count dumped.light.known)
