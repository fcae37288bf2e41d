-- What is claimed of `ihex_feed`, `ihex_pause`, `ihex_commit` and `ihex_light_after`, in their numbers. Each claim is proved in `proofs/Listeners.antt`.
-- Assumes nothing.
use Rattle.std.specs.Prelude.{ℕ, suc, ◌+◌, ◌%◌, ◌^◌, ◌≤◌, ◌<◌, ◌≡◌, ◌≢◌, ◌↔◌, ◌⊎◌, Bool, true, false, List, [], ◌++◌, length, take, drop}
use Rattle.std.proofs.Math.Option.{none, some}
use Rattle.marks.specs.Claims.{Bytes}
use Rattle.record.specs.Refusals.{bad_window}
use Rattle.reader.specs.Lines.{through}
use Rattle.steps.specs.Steps.{Verdict, refused, by}
use Rattle.steps.specs.Source.{Source}
use Rattle.window.specs.Window.{unfit}
use Rattle.window.specs.Load.{stopping_by_window, load_window}
use Rattle.intake.specs.declared.Kind.{Kind}
use Rattle.intake.specs.declared.Kind.TheVariants.{Hex, SRecords}
use Rattle.intake.specs.Ways.{way_of}
use Rattle.intake.specs.Rows.{FirstEnd, PassedThrough}
use Rattle.light.specs.declared.Light.{Light}
use Rattle.light.specs.Light.{told_count}
use Rattle.light.specs.After.{is_row}
use Rattle.listen.specs.declared.Listener.{Listener}
use Rattle.listen.specs.Listener.{too_small}
use Rattle.listen.specs.Calls.{BeginsText, dump_in, kind_of}
use Rattle.codes.specs.declared.Stand.{Stand}
use Rattle.codes.specs.Codes.{OK, DONE, USED_UP, CARRY_TOO_SMALL, LoadNumbers, load_numbers}
use Rattle.codes.specs.Lights.{BROKEN, count_number}
use Rattle.codes.specs.Listeners.{kind_flag, bare, stands_for, PASSED, NOT_READY}
use Rattle.ihex.specs.Entries.{IhexLoadBy, IhexLoad, IhexLoadSrecords, lit, IhexLightBy}
use Rattle.ihex.specs.Listening.{IhexFeed, IhexPause, IhexCommit, IhexLightAfter}

-- ---- no second answer meets a contract

-- of the carry: the bytes that are used, where the next chunk is wanted; all of it before a dump, with IHEX_DONE and with 18. Once a dump is decided or passed
-- over it may hold anything; with 16 for the window it stays (`TestedFirst`)
pub record CarryFixed (code : ℕ) (s : Stand) (carry carry' : List ℕ) : Type 0 where
  pub wanted : code ≡ USED_UP → take s.used carry ≡ take s.used carry'
  pub before_a_dump : code ≡ USED_UP → s.flags % 4 ≡ 0 → carry ≡ carry'
  pub quiet : code ≡ DONE → carry ≡ carry'
  pub too_small : code ≡ CARRY_TOO_SMALL → carry ≡ carry'

-- with marks that are bytes
abbrev pub IhexFeedUnique : Type 0
IhexFeedUnique =
    (l : Listener) (chunk carry : List ℕ) (first : ℕ) (stage stated : List ℕ) → Bytes stated
    → (n : ℕ) (s : Stand) (r : LoadNumbers) (c p m : List ℕ) → IhexFeed l chunk carry first stage stated n s r c p m
    → (n' : ℕ) (s' : Stand) (r' : LoadNumbers) (c' p' m' : List ℕ) → IhexFeed l chunk carry first stage stated n' s' r' c' p' m'
    → (n ≡ n') × (s ≡ s') × (r ≡ r') × (p ≡ p') × (m ≡ m') × CarryFixed r.code s c c'

abbrev pub IhexPauseUnique : Type 0
IhexPauseUnique =
    (l : Listener) (carry : List ℕ) (first : ℕ) (stage stated : List ℕ) → Bytes stated
    → (s : Stand) (r : LoadNumbers) (c p m : List ℕ) → IhexPause l carry first stage stated s r c p m
    → (s' : Stand) (r' : LoadNumbers) (c' p' m' : List ℕ) → IhexPause l carry first stage stated s' r' c' p' m'
    → (s ≡ s') × (r ≡ r') × (p ≡ p') × (m ≡ m') × CarryFixed r.code s c c'

abbrev pub IhexCommitUnique : Type 0
IhexCommitUnique =
    (flags : ℕ) (stage stated page marks : List ℕ) (r f : ℕ) (p m : List ℕ) (r' f' : ℕ) (p' m' : List ℕ)
    → IhexCommit flags stage stated page marks r f p m → IhexCommit flags stage stated page marks r' f' p' m' → (r ≡ r') × (f ≡ f') × (p ≡ p') × (m ≡ m')

abbrev pub IhexLightAfterUnique : Type 0
IhexLightAfterUnique =
    (code : ℕ) (l : Light) (page marks : List ℕ) (color known color' known' : ℕ)
    → IhexLightAfter code l page marks color known → IhexLightAfter code l page marks color' known' → (color ≡ color') × (known ≡ known')

-- ---- a light after a load that was fed

-- with the code, the page and the marks that a load of a text leaves it shows what the dump shows. So what is claimed of `ihex_light` and
-- `ihex_light_srecords`, of one dump or of many in turn, holds of loads that are fed
abbrev pub IhexLightAfterAsLight : Type 1
IhexLightAfterAsLight =
    (S : Type 0) (src : Source S) (text : List ℕ) (l : Light) (page marks : List ℕ) (r : LoadNumbers) (p m : List ℕ)
    → length page ≡ l.length → IhexLoadBy src text l.first page marks r p m
    → (color known : ℕ) → IhexLightAfter r.code l p m color known → IhexLightBy src text l page marks (lit r color known) p m

-- broken for a code that is not 0, for a page of another length, and for marks that no load leaves; and then the count stays
abbrev pub IhexLightAfterBroken : Type 0
IhexLightAfterBroken =
    (code : ℕ) (l : Light) (page marks : List ℕ) (color known : ℕ) → IhexLightAfter code l page marks color known
    → (code ≢ OK) ⊎ ((length page ≢ l.length) ⊎ (is_row (length page) marks ≡ false)) → (color ≡ BROKEN) × (known ≡ count_number (told_count l.known))

-- ---- what is refused before all else

-- 18 comes exactly if the carry is under 522 bytes or, in a dump and while skipping, `used` is over 522. Then 16 comes, for a window that is refused. With
-- both nothing was read: the listener stands where it stood, and no byte changed
pub record TestedFirst (s : Stand) (carry : List ℕ) (first : ℕ) (stage stated : List ℕ) (s' : Stand) (r : LoadNumbers) (carry' stage' stated' : List ℕ) : Type 0 where
  pub eighteen : (r.code ≡ CARRY_TOO_SMALL) ↔ (too_small (stands_for s) (length carry) ≡ true)
  pub sixteen : r.code ≢ CARRY_TOO_SMALL → unfit first (length stage) (length stated) ≡ true → r ≡ load_numbers (refused bad_window 0)
  pub keeps : (r.code ≡ CARRY_TOO_SMALL) ⊎ (unfit first (length stage) (length stated) ≡ true)
      → (stands_for s' ≡ stands_for s) × (carry' ≡ carry) × (stage' ≡ stage) × (stated' ≡ stated)

abbrev pub IhexFeedTests : Type 0
IhexFeedTests =
    (s : Stand) (chunk carry : List ℕ) (first : ℕ) (stage stated : List ℕ) (taken : ℕ) (s' : Stand) (r : LoadNumbers) (carry' stage' stated' : List ℕ)
    → IhexFeed (stands_for s) chunk carry first stage stated taken s' r carry' stage' stated'
    → TestedFirst s carry first stage stated s' r carry' stage' stated' × ((r.code ≡ CARRY_TOO_SMALL) ⊎ (unfit first (length stage) (length stated) ≡ true) → taken ≡ 0)

abbrev pub IhexPauseTests : Type 0
IhexPauseTests =
    (s : Stand) (carry : List ℕ) (first : ℕ) (stage stated : List ℕ) (s' : Stand) (r : LoadNumbers) (carry' stage' stated' : List ℕ)
    → IhexPause (stands_for s) carry first stage stated s' r carry' stage' stated' → TestedFirst s carry first stage stated s' r carry' stage' stated'

-- IHEX_NOT_READY exactly if the flags are not those of a dump that is ready. Any code but IHEX_OK changes nothing
abbrev pub IhexCommitKeeps : Type 0
IhexCommitKeeps =
    (flags : ℕ) (stage stated page marks : List ℕ) (code flags' : ℕ) (page' marks' : List ℕ) → IhexCommit flags stage stated page marks code flags' page' marks'
    → ((code ≡ NOT_READY) ↔ (flags % 4 ≢ 3)) × (code ≢ OK → (flags' ≡ flags) × (page' ≡ page) × (marks' ≡ marks))

-- ---- rows of calls

-- calls of `ihex_feed` from where a listener stands, while they return IHEX_USED_UP: these bytes were fed. The seven numbers, the carry, the staging page
-- and its marks pass from one call to the next
pub data IhexListens (first : ℕ) (s₀ : Stand) (carry₀ stage₀ stated₀ : List ℕ) : (bytes : List ℕ) (s : Stand) (carry stage stated : List ℕ) → Type 0 where
  no_call : IhexListens first s₀ carry₀ stage₀ stated₀ [] s₀ carry₀ stage₀ stated₀
  one_more : {bytes : List ℕ} {s : Stand} {carry stage stated : List ℕ} (chunk : List ℕ) (taken : ℕ) (s' : Stand) (r : LoadNumbers) (carry' stage' stated' : List ℕ)
      → IhexListens first s₀ carry₀ stage₀ stated₀ bytes s carry stage stated → IhexFeed (stands_for s) chunk carry first stage stated taken s' r carry' stage' stated'
      → r.code ≡ USED_UP → IhexListens first s₀ carry₀ stage₀ stated₀ (bytes ++ chunk) s' carry' stage' stated'

-- a text of this kind begins: IHEX_FRONT or IHEX_READY, and the kind. Whether a CR waits before it is a flag too
abbrev pub TextBegins : Stand → Kind → (cr : Bool) → Type 0
TextBegins s kind cr = BeginsText (stands_for s) kind cr

-- where a text begins, where everything through the next end record is skipped, and where a dump is ready: the flags, and 0 in all else
abbrev pub at_front : Kind → Stand
at_front kind = bare (kind_flag kind)

abbrev pub skipping : Kind → Stand
skipping kind = bare (2 + kind_flag kind)

abbrev pub ready : Kind → Stand
ready kind = bare (3 + kind_flag kind)

-- with no CR before it the flags are these, whatever the other numbers are
abbrev pub IhexBegins : Type 0
IhexBegins = (kind : Kind) (s : Stand) → (s.flags ≡ kind_flag kind) ⊎ (s.flags ≡ 3 + kind_flag kind) → TextBegins s kind false

-- a dump is decided: IHEX_OK, or a refusal other than 18
abbrev pub Decides : (code : ℕ) → Type 0
Decides code = (code < DONE) × (code ≢ CARRY_TOO_SMALL)

-- the load of a kind of text
abbrev pub IhexLoadOf : Kind → (text : List ℕ) (first : ℕ) (page marks : List ℕ) (r : LoadNumbers) (page' marks' : List ℕ) → Type 0
IhexLoadOf Hex text first page marks r page' marks' = IhexLoad text first page marks r page' marks'
IhexLoadOf SRecords text first page marks r page' marks' = IhexLoadSrecords text first page marks r page' marks'

-- these numbers are those of a load of the text. It was used through the LF of the line by which that load stops, and this is left of it
pub record DecidedAs {S : Type 0} (src : Source S) (text : List ℕ) (first : ℕ) (page marks : List ℕ) (r : LoadNumbers) (left : List ℕ) : Type 0 where
  pub numbers : r ≡ load_numbers (load_window src text first page marks).answer
  pub line : ℕ
  pub stops : stopping_by_window src text first page marks ≡ some (by line (load_window src text first page marks).answer)
  pub head : List ℕ
  pub is_through : through line text ≡ some head
  pub whole : head ++ left ≡ text

-- ---- a dump

-- where a dump is decided, wherever the chunks are cut and whatever the carry and staging held: the six numbers are those of a load of the text from the
-- dump's first byte on, whatever follows. What is left of the chunk follows the LF of the line that decides. After an acceptance the listener is ready,
-- and after a refusal it skips
abbrev pub IhexDumpDecides : Type 0
IhexDumpDecides =
    (kind : Kind) (cr : Bool) (first : ℕ) (s₀ : Stand) (carry₀ stage₀ stated₀ : List ℕ) → TextBegins s₀ kind cr → unfit first (length stage₀) (length stated₀) ≡ false
    → (bytes : List ℕ) (s : Stand) (carry stage stated : List ℕ) → IhexListens first s₀ carry₀ stage₀ stated₀ bytes s carry stage stated
    → (chunk : List ℕ) (taken : ℕ) (s' : Stand) (r : LoadNumbers) (carry' stage' stated' : List ℕ)
    → IhexFeed (stands_for s) chunk carry first stage stated taken s' r carry' stage' stated' → Decides r.code
    → (more page marks : List ℕ) → let text = dump_in cr (bytes ++ (chunk ++ more)) in
    suc (length text) < 2 ^ 64 → length page ≡ length stage₀ → length marks ≡ length stated₀
    → DecidedAs (way_of kind false).source text first page marks r (drop taken chunk ++ more)
    × (taken ≤ length chunk)
    × (r.code ≡ OK → s' ≡ ready kind)
    × (r.code ≢ OK → s' ≡ skipping kind)

-- with a carry of 522 bytes or more, each call wants the next chunk or decides the dump
abbrev pub IhexDumpSays : Type 0
IhexDumpSays =
    (kind : Kind) (cr : Bool) (first : ℕ) (s₀ : Stand) (carry₀ stage₀ stated₀ : List ℕ) → TextBegins s₀ kind cr → unfit first (length stage₀) (length stated₀) ≡ false
    → 522 ≤ length carry₀ → (bytes : List ℕ) (s : Stand) (carry stage stated : List ℕ) → IhexListens first s₀ carry₀ stage₀ stated₀ bytes s carry stage stated
    → (chunk : List ℕ) (taken : ℕ) (s' : Stand) (r : LoadNumbers) (carry' stage' stated' : List ℕ)
    → IhexFeed (stands_for s) chunk carry first stage stated taken s' r carry' stage' stated' → (r.code ≡ USED_UP) ⊎ Decides r.code

-- and no call is late: while the next chunk is wanted, the line by which a load of the text stops has not come with its LF, whatever follows
abbrev pub IhexDumpWaits : Type 0
IhexDumpWaits =
    (kind : Kind) (cr : Bool) (first : ℕ) (s₀ : Stand) (carry₀ stage₀ stated₀ : List ℕ) → TextBegins s₀ kind cr → unfit first (length stage₀) (length stated₀) ≡ false
    → (bytes : List ℕ) (s : Stand) (carry stage stated : List ℕ) → IhexListens first s₀ carry₀ stage₀ stated₀ bytes s carry stage stated
    → (more page marks : List ℕ) → suc (length (dump_in cr bytes)) < 2 ^ 64 → length page ≡ length stage₀ → length marks ≡ length stated₀
    → (line : ℕ) (v : Verdict) → stopping_by_window (way_of kind false).source (dump_in cr (bytes ++ more)) first page marks ≡ some (by line v)
    → through line (dump_in cr bytes) ≡ none

-- a dump that is fed and then committed is a load: `ihex_commit` returns IHEX_OK, page and marks are what `ihex_load` or `ihex_load_srecords` leaves of its
-- text, with the numbers that `ihex_feed` returned, and the next text begins
abbrev pub IhexFedIsLoaded : Type 0
IhexFedIsLoaded =
    (kind : Kind) (cr : Bool) (first : ℕ) (s₀ : Stand) (carry₀ stage₀ stated₀ : List ℕ) → TextBegins s₀ kind cr → unfit first (length stage₀) (length stated₀) ≡ false
    → (bytes : List ℕ) (s : Stand) (carry stage stated : List ℕ) → IhexListens first s₀ carry₀ stage₀ stated₀ bytes s carry stage stated
    → (chunk : List ℕ) (taken : ℕ) (s' : Stand) (r : LoadNumbers) (carry' stage' stated' : List ℕ)
    → IhexFeed (stands_for s) chunk carry first stage stated taken s' r carry' stage' stated' → r.code ≡ OK
    → (page marks : List ℕ) (code flags : ℕ) (page' marks' : List ℕ) → IhexCommit s'.flags stage' stated' page marks code flags page' marks'
    → (more : List ℕ) → let text = dump_in cr (bytes ++ (chunk ++ more)) in
    suc (length text) < 2 ^ 64 → length page ≡ length stage₀ → length marks ≡ length stated₀
    → (code ≡ OK) × (flags ≡ kind_flag kind) × IhexLoadOf kind text first page marks r page' marks'

-- one that is refused is a load that is refused, which leaves page and marks as they are
abbrev pub IhexRefusedIsLoaded : Type 0
IhexRefusedIsLoaded =
    (kind : Kind) (cr : Bool) (first : ℕ) (s₀ : Stand) (carry₀ stage₀ stated₀ : List ℕ) → TextBegins s₀ kind cr → unfit first (length stage₀) (length stated₀) ≡ false
    → (bytes : List ℕ) (s : Stand) (carry stage stated : List ℕ) → IhexListens first s₀ carry₀ stage₀ stated₀ bytes s carry stage stated
    → (chunk : List ℕ) (taken : ℕ) (s' : Stand) (r : LoadNumbers) (carry' stage' stated' : List ℕ)
    → IhexFeed (stands_for s) chunk carry first stage stated taken s' r carry' stage' stated' → Decides r.code → r.code ≢ OK
    → (more page marks : List ℕ) → let text = dump_in cr (bytes ++ (chunk ++ more)) in
    suc (length text) < 2 ^ 64 → length page ≡ length stage₀ → length marks ≡ length stated₀
    → IhexLoadOf kind text first page marks r page marks

-- ---- what is skipped

-- while a listener skips no dump is decided. IHEX_PASSED is returned where the first end record has come, whatever follows: what is left follows its LF, a
-- text begins, and staging is what it was
abbrev pub IhexTailPasses : Type 0
IhexTailPasses =
    (kind : Kind) (first : ℕ) (s₀ : Stand) (carry₀ stage₀ stated₀ : List ℕ) → s₀ ≡ skipping kind → unfit first (length stage₀) (length stated₀) ≡ false
    → (bytes : List ℕ) (s : Stand) (carry stage stated : List ℕ) → IhexListens first s₀ carry₀ stage₀ stated₀ bytes s carry stage stated
    → (chunk : List ℕ) (taken : ℕ) (s' : Stand) (r : LoadNumbers) (carry' stage' stated' : List ℕ)
    → IhexFeed (stands_for s) chunk carry first stage stated taken s' r carry' stage' stated'
    → (more : List ℕ) → let text = bytes ++ (chunk ++ more) in suc (length text) < 2 ^ 64
    → ¬ (Decides r.code)
    × (r.code ≡ PASSED
    → PassedThrough kind text (drop taken chunk ++ more) × (taken ≤ length chunk) × (s' ≡ at_front kind) × (stage' ≡ stage₀) × (Bytes stated₀ → stated' ≡ stated₀))

-- with a carry of 522 bytes or more, each call wants the next chunk or returns IHEX_PASSED
abbrev pub IhexTailSays : Type 0
IhexTailSays =
    (kind : Kind) (first : ℕ) (s₀ : Stand) (carry₀ stage₀ stated₀ : List ℕ) → s₀ ≡ skipping kind → unfit first (length stage₀) (length stated₀) ≡ false → 522 ≤ length carry₀
    → (bytes : List ℕ) (s : Stand) (carry stage stated : List ℕ) → IhexListens first s₀ carry₀ stage₀ stated₀ bytes s carry stage stated
    → (chunk : List ℕ) (taken : ℕ) (s' : Stand) (r : LoadNumbers) (carry' stage' stated' : List ℕ)
    → IhexFeed (stands_for s) chunk carry first stage stated taken s' r carry' stage' stated' → suc (length (bytes ++ chunk)) < 2 ^ 64 → (r.code ≡ USED_UP) ⊎ (r.code ≡ PASSED)

-- and no call is late
abbrev pub IhexTailWaits : Type 0
IhexTailWaits =
    (kind : Kind) (first : ℕ) (s₀ : Stand) (carry₀ stage₀ stated₀ : List ℕ) → s₀ ≡ skipping kind → unfit first (length stage₀) (length stated₀) ≡ false
    → (bytes : List ℕ) (s : Stand) (carry stage stated : List ℕ) → IhexListens first s₀ carry₀ stage₀ stated₀ bytes s carry stage stated
    → (more : List ℕ) → suc (length bytes) < 2 ^ 64 → (line : ℕ) → FirstEnd kind (bytes ++ more) line → through line bytes ≡ none

-- ---- a pause

-- a pause in a dump: the six numbers are those of a load of its text, which ends here. After an acceptance the listener is ready, and after a refusal a
-- text begins
abbrev pub IhexDumpEnds : Type 0
IhexDumpEnds =
    (kind : Kind) (cr : Bool) (first : ℕ) (s₀ : Stand) (carry₀ stage₀ stated₀ : List ℕ) → TextBegins s₀ kind cr → unfit first (length stage₀) (length stated₀) ≡ false
    → (bytes : List ℕ) (s : Stand) (carry stage stated : List ℕ) → IhexListens first s₀ carry₀ stage₀ stated₀ bytes s carry stage stated
    → (s' : Stand) (r : LoadNumbers) (carry' stage' stated' : List ℕ) → IhexPause (stands_for s) carry first stage stated s' r carry' stage' stated' → Decides r.code
    → (page marks : List ℕ) → suc (length (dump_in cr bytes)) < 2 ^ 64 → length page ≡ length stage₀ → length marks ≡ length stated₀
    → (r ≡ load_numbers (load_window (way_of kind false).source (dump_in cr bytes) first page marks).answer)
    × (r.code ≡ OK → s' ≡ ready kind)
    × (r.code ≢ OK → s' ≡ at_front kind)

-- a dump that is accepted at a pause and then committed is a load too
abbrev pub IhexPausedIsLoaded : Type 0
IhexPausedIsLoaded =
    (kind : Kind) (cr : Bool) (first : ℕ) (s₀ : Stand) (carry₀ stage₀ stated₀ : List ℕ) → TextBegins s₀ kind cr → unfit first (length stage₀) (length stated₀) ≡ false
    → (bytes : List ℕ) (s : Stand) (carry stage stated : List ℕ) → IhexListens first s₀ carry₀ stage₀ stated₀ bytes s carry stage stated
    → (s' : Stand) (r : LoadNumbers) (carry' stage' stated' : List ℕ) → IhexPause (stands_for s) carry first stage stated s' r carry' stage' stated' → r.code ≡ OK
    → (page marks : List ℕ) (code flags : ℕ) (page' marks' : List ℕ) → IhexCommit s'.flags stage' stated' page marks code flags page' marks'
    → suc (length (dump_in cr bytes)) < 2 ^ 64 → length page ≡ length stage₀ → length marks ≡ length stated₀
    → (code ≡ OK) × (flags ≡ kind_flag kind) × IhexLoadOf kind (dump_in cr bytes) first page marks r page' marks'

-- and one that is refused there is a load that is refused
abbrev pub IhexPauseRefusedIsLoaded : Type 0
IhexPauseRefusedIsLoaded =
    (kind : Kind) (cr : Bool) (first : ℕ) (s₀ : Stand) (carry₀ stage₀ stated₀ : List ℕ) → TextBegins s₀ kind cr → unfit first (length stage₀) (length stated₀) ≡ false
    → (bytes : List ℕ) (s : Stand) (carry stage stated : List ℕ) → IhexListens first s₀ carry₀ stage₀ stated₀ bytes s carry stage stated
    → (s' : Stand) (r : LoadNumbers) (carry' stage' stated' : List ℕ) → IhexPause (stands_for s) carry first stage stated s' r carry' stage' stated' → Decides r.code → r.code ≢ OK
    → (page marks : List ℕ) → suc (length (dump_in cr bytes)) < 2 ^ 64 → length page ≡ length stage₀ → length marks ≡ length stated₀
    → IhexLoadOf kind (dump_in cr bytes) first page marks r page marks

-- after a pause that returns neither 18 nor 16 for the window a text begins, wherever the listener stood
abbrev pub IhexPauseBegins : Type 0
IhexPauseBegins =
    (s : Stand) (carry : List ℕ) (first : ℕ) (stage stated : List ℕ) (s' : Stand) (r : LoadNumbers) (carry' stage' stated' : List ℕ)
    → IhexPause (stands_for s) carry first stage stated s' r carry' stage' stated' → r.code ≢ CARRY_TOO_SMALL → unfit first (length stage) (length stated) ≡ false
    → TextBegins s' (kind_of (stands_for s)) false
