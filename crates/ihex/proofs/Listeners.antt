-- The claims of `specs/Listeners.antt`: what `listen` and `light` prove, in numbers.
-- Assumes nothing.
use Prim.Native.Nat.{ℕ, ◌+◌, ◌%◌, ◌≤◌}
use mathlib.Core.Path.{◌≡◌, refl, sym, ap, ap₂, subst, ◌∙◌}
use mathlib.Core.Logic.{◌≢◌, ◌↔◌, ◌⊎◌, inl, inr}
use mathlib.Core.Bool.{Bool, true, false, ◌&&◌}
use mathlib.Core.Option.{some}
use mathlib.Core.List.{List, [], ◌++◌}
use native.Mathlib.Omega.{arith}
use lib.Dec.{eqb}
use lib.ListN.{length, take, drop}
use borrow.Author.Tests.{ne_eqb, eqb-true}
use Rattle.std.specs.Prelude.{if◌then◌else◌}
use Rattle.record.specs.Refusals.{Refusal, refusal}
use Rattle.reader.specs.declared.ReaderError.{ReaderError}
use Rattle.reader.specs.declared.ReaderError.TheVariants.{MissingStartCode, RecordTooShort, RecordTooLong, RecordNotEvenLength, ContainsInvalidCharacters, ChecksumMismatch, PayloadLengthMismatch, UnsupportedRecordType, InvalidLengthForType, PoolFull}
use Rattle.steps.specs.declared.LoaderError.{LoaderError}
use Rattle.steps.specs.declared.LoaderError.TheVariants.{Line, MissingEndOfFileRecord, BadWindow, OutsideWindow, CountMismatch, StartConflict, BadTable}
use Rattle.steps.specs.Aliases.{Loading}
use Rattle.steps.specs.declared.Tally.{Tally}
use Rattle.steps.specs.Steps.{Tally as Tally-of, Verdict, accepted, refused, by}
use Rattle.steps.specs.Source.{Source}
use Rattle.steps.specs.Told.{loader_refusal, tallied, told_loading}
use Rattle.window.specs.Window.{unfit}
use Rattle.window.specs.Load.{load_window}
use Rattle.intake.specs.declared.Kind.{Kind}
use Rattle.intake.specs.declared.Kind.TheVariants.{Hex, SRecords}
use Rattle.intake.specs.declared.Intake.{Intake}
use Rattle.intake.specs.Ways.{way_of}
use Rattle.intake.specs.Intake.{new_tail}
use Rattle.intake.specs.Rows.{UsedThrough, PassedThrough}
use Rattle.intake.proofs.Following.{stops_fit}
use Rattle.light.specs.declared.Light.{Light}
use Rattle.light.specs.declared.Dumped.{Dumped}
use Rattle.light.specs.Colors.{Outcome, refused_one, color}
use Rattle.light.specs.Light.{told_color, told_count, load_for, said_in, outcome, light_after}
use Rattle.light.specs.After.{is_row, taken, said_after}
use Rattle.light.proofs.After.{after_unique, said_accepted, said_refused, for_window, load_said}
use Rattle.light.proofs.History.{known_is}
use Rattle.listen.specs.declared.Listener.{Listener}
use Rattle.listen.specs.declared.Listener.TheVariants.{Front, Within, Ready}
use Rattle.listen.specs.declared.Said.{Said}
use Rattle.listen.specs.declared.Said.TheVariants.{WantsMore, Decided, Passed, Quiet, CarryTooSmall}
use Rattle.listen.specs.declared.Step.{Step}
use Rattle.listen.specs.Aliases.{Committed}
use Rattle.listen.specs.declared.CommitError.TheVariants.{NotReady}
use Rattle.listen.specs.declared.CommitError.TheVariants as committed
use Rattle.listen.specs.Listener.{after, after_end, too_small, Unread, Tested, commit_by, Commits}
use Rattle.listen.specs.Answers.{SameCarry}
use Rattle.listen.specs.Calls.{Listens, no_chunk, and_then, BeginsText, dump_in, kind_of}
use Rattle.listen.proofs.Answers.{feed_unique, pause_unique, commit_unique}
use Rattle.listen.proofs.Calls.{dump_decides, dump_commits, dump_ends, end_commits, tail_passes, pause_begins}
use Rattle.listen.proofs.Waiting.{eighteen_exactly, dump_says, dump_waits, tail_says, tail_waits}
use Rattle.codes.specs.declared.Stand.{Stand}
use Rattle.codes.specs.Codes.{OK, USED_UP, CARRY_TOO_SMALL, refused_with, LoadNumbers, load_numbers}
use Rattle.codes.specs.Lights.{color_number, count_number}
use Rattle.codes.specs.States.{bit}
use Rattle.codes.specs.Listeners as codes
use Rattle.codes.specs.Listeners.{kind_flag, listener_of, stand, stands_for, PASSED, NOT_READY, said_numbers, commit_code, answer_of}
use Rattle.ihex.specs.Entries.{IhexLoadBy}
use Rattle.ihex.specs.Listening.{TellSaid, flags_after, IhexCommit}
use Rattle.ihex.specs.Listeners.{CarryFixed, IhexFeedUnique, IhexPauseUnique, IhexCommitUnique, IhexLightAfterUnique, IhexLightAfterAsLight, IhexLightAfterBroken, TestedFirst, IhexFeedTests, IhexPauseTests, IhexCommitKeeps, IhexListens, no_call, one_more, at_front, skipping, ready, IhexBegins, Decides, IhexLoadOf, DecidedAs, IhexDumpDecides, IhexDumpSays, IhexDumpWaits, IhexFedIsLoaded, IhexRefusedIsLoaded, IhexTailPasses, IhexTailSays, IhexTailWaits, IhexDumpEnds, IhexPausedIsLoaded, IhexPauseRefusedIsLoaded, IhexPauseBegins}
use Rattle.ihex.proofs.Loads.{load_keeps}
use Rattle.std.specs.Prelude.{Err, None, Ok}
use Rattle.steps.specs.Aliases.{refuse}

-- ---- what a code says

line_code : (e : ReaderError) → Decides (load_numbers (told_loading (refuse (Line e) 0))).code
line_code MissingStartCode = (omega arith, λ e. omega arith)
line_code (ContainsInvalidCharacters place) = (omega arith, λ e. omega arith)
line_code RecordTooShort = (omega arith, λ e. omega arith)
line_code RecordTooLong = (omega arith, λ e. omega arith)
line_code RecordNotEvenLength = (omega arith, λ e. omega arith)
line_code (ChecksumMismatch computed stated) = (omega arith, λ e. omega arith)
line_code PayloadLengthMismatch = (omega arith, λ e. omega arith)
line_code (UnsupportedRecordType kind) = (omega arith, λ e. omega arith)
line_code InvalidLengthForType = (omega arith, λ e. omega arith)
line_code PoolFull = (omega arith, λ e. omega arith)

why_code : (why : LoaderError) (line : ℕ) → Decides (load_numbers (told_loading (refuse why line))).code
why_code (Line e) line = line_code e
why_code MissingEndOfFileRecord line = (omega arith, λ e. omega arith)
why_code BadWindow line = (omega arith, λ e. omega arith)
why_code (OutsideWindow address) line = (omega arith, λ e. omega arith)
why_code (CountMismatch stated seen) line = (omega arith, λ e. omega arith)
why_code StartConflict line = (omega arith, λ e. omega arith)
why_code BadTable line = (omega arith, λ e. omega arith)

load_code : (l : Loading) → Decides (load_numbers (told_loading l)).code
load_code (Ok t) = (omega arith, λ e. omega arith)
load_code (Err z) = why_code z.why z.line

-- a refusal's code is not IHEX_OK
refused_not_ok : (w : Refusal) → (refused_with w).code ≢ OK
refused_not_ok (refusal n vs) e = omega arith

pub wants : (said : Said) → (said_numbers said).code ≡ USED_UP → said ≡ WantsMore
wants WantsMore e = refl
wants (Decided answer) e = let (few, _) = load_code answer in absurd (omega arith)
wants Passed e = absurd (omega arith)
wants Quiet e = absurd (omega arith)
wants CarryTooSmall e = absurd (omega arith)

pub passes : (said : Said) → (said_numbers said).code ≡ PASSED → said ≡ Passed
passes WantsMore e = absurd (omega arith)
passes (Decided answer) e = let (few, _) = load_code answer in absurd (omega arith)
passes Passed e = refl
passes Quiet e = absurd (omega arith)
passes CarryTooSmall e = absurd (omega arith)

is_small : (said : Said) → (said_numbers said).code ≡ CARRY_TOO_SMALL → said ≡ CarryTooSmall
is_small WantsMore e = absurd (omega arith)
is_small (Decided answer) e = absurd ((load_code answer).1 e)
is_small Passed e = absurd (omega arith)
is_small Quiet e = absurd (omega arith)
is_small CarryTooSmall e = refl

decides : (said : Said) → Decides (said_numbers said).code → (answer : Loading) × (said ≡ Decided answer)
decides WantsMore (few, other) = absurd (omega arith)
decides (Decided answer) d = (answer, refl)
decides Passed (few, other) = absurd (omega arith)
decides Quiet (few, other) = absurd (omega arith)
decides CarryTooSmall (few, other) = absurd (other refl)

-- ---- uniqueness

-- the numbers of a step are those of the step
same_told : {step step' : Step} {s s' : Stand} {r r' : LoadNumbers} → step ≡ step' → TellSaid step s r → TellSaid step' s' r' → (s ≡ s') × (r ≡ r')
same_told e x y = (
  x.stand_is ∙ ap (λ (z : Step). stand z.listener) e ∙ sym y.stand_is,
  x.numbers ∙ ap (λ (z : Step). said_numbers z.said) e ∙ sym y.numbers,
)

-- all of a carry is fixed
all_fixed : {code : ℕ} {s : Stand} {c c' : List ℕ} → c ≡ c' → CarryFixed code s c c'
all_fixed {s = s} e = record { wanted = λ _. ap (take s.used) e; before_a_dump = λ _ _. e; quiet = λ _. e; too_small = λ _. e }

-- a load that goes on is no front
no_front : (s : Stand) (i : Intake) → stands_for s ≡ Within i → s.flags % 4 ≡ 0 → ⊥
no_front s i e z = let q : Front _ _ ≡ Within _ = (rw z at e) in let z : ◌≡◌ {A = ℕ} 0 1 = cc in absurd (omega arith)

by_said : (said : Said) (l : Listener) (s : Stand) (c c' : List ℕ) → s ≡ stand l → stands_for s ≡ l → SameCarry said l c c' → CarryFixed (said_numbers said).code s c c'
by_said WantsMore (Front kind cr) s c c' e f h = all_fixed h
by_said WantsMore (Within i) s c c' e f h =
    record {
      wanted = λ _. subst (λ (n : ℕ). take n c ≡ take n c') (sym (ap (λ (x : Stand). x.used) e)) h;
      before_a_dump = λ _ z. absurd (no_front s i f z);
      quiet = λ q. absurd (omega arith);
      too_small = λ q. absurd (omega arith);
    }
by_said WantsMore (Ready kind) s c c' e f h = all_fixed h
by_said (Decided answer) l s c c' e f h =
    let (few, not_small) = load_code answer in
    record { wanted = λ q. absurd (omega arith); before_a_dump = λ q _. absurd (omega arith); quiet = λ q. absurd (omega arith); too_small = λ q. absurd (not_small q) }
by_said Passed l s c c' e f h = record { wanted = λ q. absurd (omega arith); before_a_dump = λ q _. absurd (omega arith); quiet = λ q. absurd (omega arith); too_small = λ q. absurd (omega arith) }
by_said Quiet l s c c' e f h = all_fixed h
by_said CarryTooSmall l s c c' e f h = all_fixed h

fixed : {step : Step} {s : Stand} {r : LoadNumbers} (c c' : List ℕ) → TellSaid step s r → SameCarry step.said step.listener c c' → CarryFixed r.code s c c'
fixed {step = step} {s = s} c c' t h =
    subst (λ (n : LoadNumbers). CarryFixed n.code s c c') (sym t.numbers) (by_said step.said step.listener s c c' t.stand_is t.returns h)

pub ihex_feed_unique : IhexFeedUnique
ihex_feed_unique l chunk carry first stage stated few n s r c p m x n' s' r' c' p' m' y =
    let (e, pages, marks, k) = feed_unique l chunk carry first stage stated x.step y.step c c' p p' m m' few x.hears y.hears in
    let (stands, numbers) = same_told e x.tells y.tells in
    (x.taken_is ∙ ap (λ (z : Step). z.used) e ∙ sym y.taken_is, stands, numbers, pages, marks, fixed c c' x.tells k)

pub ihex_pause_unique : IhexPauseUnique
ihex_pause_unique l carry first stage stated few s r c p m x s' r' c' p' m' y =
    let (e, pages, marks, k) = pause_unique l carry first stage stated x.step y.step c c' p p' m m' few x.pauses y.pauses in
    let (stands, numbers) = same_told e x.tells y.tells in
    (stands, numbers, pages, marks, fixed c c' x.tells k)

pub ihex_commit_unique : IhexCommitUnique
ihex_commit_unique flags stage stated page marks r f p m r' f' p' m' x y =
    let (e, pages, all) = commit_unique (listener_of flags 0 0 0 0 0 0) stage stated page marks x.committed y.committed p p' m m' x.commits y.commits in
    (x.answer ∙ ap commit_code e ∙ sym y.answer, x.flags_are ∙ ap (flags_after flags) e ∙ sym y.flags_are, pages, all)

pub ihex_light_after_unique : IhexLightAfterUnique
ihex_light_after_unique code l page marks color known color' known' x y =
    let e = after_unique l (answer_of code) page marks x.dumped y.dumped x.shows y.shows in
    (x.color_is ∙ ap (λ (d : Dumped). color_number (told_color d.color)) e ∙ sym y.color_is, x.known_is ∙ ap (λ (d : Dumped). count_number (told_count d.light.known)) e ∙ sym y.known_is)

-- ---- a light after a load that was fed

-- an acceptance that is not taken
not_taken : (l : Light) (t : Tally-of) (page marks : List ℕ) → (eqb (length page) l.length && is_row (length page) marks) ≡ false → said_after l (accepted t) page marks ≡ refused_one
unfolding said_after taken said_in
not_taken l t page marks e = rw e

-- a code says whether a load accepted, and no more is asked of it
said_by_code : (l : Light) (v : Verdict) (page marks : List ℕ) → said_after l (told_loading (answer_of (load_numbers v).code)) page marks ≡ said_after l v page marks
said_by_code l (accepted t) page marks = said_accepted l page marks _ t
said_by_code l (refused (refusal n vs) line) page marks =
    ap (λ (b : Bool). said_after l (told_loading (if b then Ok (record { records = 0; start = None }) else refuse MissingEndOfFileRecord 0)) page marks) (ne_eqb (256 + n) 0 (λ e. omega arith))
    ∙ said_refused l page marks _ 0 ∙ sym (said_refused l page marks (refusal n vs) line)

pub ihex_light_after_as_light : IhexLightAfterAsLight
ihex_light_after_as_light S src text l page marks r p m size x color' known y =
    let same = for_window src l text page marks size in
    let numbers : r ≡ load_numbers (load_for src l text page marks).answer = rw same x.numbers in
    let pages : p ≡ (load_for src l text page marks).page = rw same x.page_is in
    let all : m ≡ (load_for src l text page marks).marks = rw same x.marks_is in
    let said : said_after l (told_loading (answer_of r.code)) p m ≡ outcome src l text page marks =
    ap (λ (n : LoadNumbers). said_after l (told_loading (answer_of n.code)) p m) numbers ∙ said_by_code l (load_for src l text page marks).answer p m
    ∙ ap₂ (λ (u w : List ℕ). said_after l (load_for src l text page marks).answer u w) pages all ∙ load_said src l text page marks in
    let k = told_count l.known in
    record {
      numbers = numbers;
      color_is = y.color_is ∙ ap color_number y.shows.color_is ∙ ap (λ (o : Outcome). color_number (color k o)) said;
      known_is = y.known_is ∙ ap (λ (z : Light). count_number (told_count z.known)) y.shows.light_is
          ∙ ap (λ (o : Outcome). count_number (told_count (light_after l o).known)) said ∙ ap count_number (known_is l (outcome src l text page marks));
      page_is = pages;
      marks_is = all;
    }

-- an answer that is not taken says nothing of the count
said_broken : (l : Light) (answer : Loading) (page marks : List ℕ) → (length page ≢ l.length) ⊎ (is_row (length page) marks ≡ false) → said_after l (told_loading answer) page marks ≡ refused_one
said_broken l (Err z) page marks h = said_refused l page marks (loader_refusal z.why) z.line
said_broken l (Ok t) page marks h = go (eqb (length page) l.length) refl (is_row (length page) marks) refl h
  where
    go : (a : Bool) → eqb (length page) l.length ≡ a → (b : Bool) → is_row (length page) marks ≡ b → (length page ≢ l.length) ⊎ (is_row (length page) marks ≡ false)
        → said_after l (told_loading (Ok t)) page marks ≡ refused_one
    go false e b f h = not_taken l (tallied t) page marks (rw e)
    go true e false f h = not_taken l (tallied t) page marks (rw (e, f))
    go true e true f (inl n) = absurd (n (eqb-true (length page) l.length e))
    go true e true f (inr q) = let z : ◌≡◌ {A = Bool} true false = sym f ∙ q in let z : ◌≡◌ {A = ℕ} 0 1 = cc in absurd (omega arith)

pub ihex_light_after_broken : IhexLightAfterBroken
unfolding color
ihex_light_after_broken code l page marks color' known x h =
    let k = told_count l.known in
    let said : said_after l (told_loading (answer_of code)) page marks ≡ refused_one = by h in (
      x.color_is ∙ ap color_number x.shows.color_is ∙ ap (λ (o : Outcome). color_number (color k o)) said,
      x.known_is ∙ ap (λ (z : Light). count_number (told_count z.known)) x.shows.light_is ∙ ap (λ (o : Outcome). count_number (told_count (light_after l o).known)) said,
    )
  where
    by : (code ≢ OK) ⊎ ((length page ≢ l.length) ⊎ (is_row (length page) marks ≡ false)) → said_after l (told_loading (answer_of code)) page marks ≡ refused_one
    by (inl n) =
        ap (λ (b : Bool). said_after l (told_loading (if b then Ok (record { records = 0; start = None }) else refuse MissingEndOfFileRecord 0)) page marks) (ne_eqb code 0 n)
        ∙ said_refused l page marks (loader_refusal MissingEndOfFileRecord) 0
    by (inr q) = said_broken l (answer_of code) page marks q

-- ---- what is refused before all else

-- the code of what is said
pub code_of : {step : Step} {s : Stand} {r : LoadNumbers} → TellSaid step s r → r.code ≡ (said_numbers step.said).code
code_of t = ap (λ (n : LoadNumbers). n.code) t.numbers

module _ (s : Stand) (carry : List ℕ) (first : ℕ) (stage stated : List ℕ) (step : Step) (s' : Stand) (r : LoadNumbers) (carry' stage' stated' : List ℕ) (t : TellSaid step s' r) (W : Type 0)
    (h : Tested (too_small (stands_for s) (length carry)) (stands_for s) carry first stage stated step carry' stage' stated' W)
    (exactly : (step.said ≡ CarryTooSmall) ↔ (too_small (stands_for s) (length carry) ≡ true)) where
  small_so : r.code ≡ CARRY_TOO_SMALL → too_small (stands_for s) (length carry) ≡ true
  small_so e = exactly.0 (is_small step.said (sym (code_of t) ∙ e))

  -- by which test it was
  unread_so : (r.code ≡ CARRY_TOO_SMALL) ⊎ (unfit first (length stage) (length stated) ≡ true) → (said : Said) × Unread (stands_for s) said carry stage stated step carry' stage' stated'
  unread_so (inl e) = (CarryTooSmall, h.small (small_so e))
  unread_so (inr u) = go (too_small (stands_for s) (length carry)) refl
    where
      go : (b : Bool) → too_small (stands_for s) (length carry) ≡ b → (said : Said) × Unread (stands_for s) said carry stage stated step carry' stage' stated'
      go true e = (CarryTooSmall, h.small e)
      go false e = (Decided (refuse BadWindow 0), h.bad_window e u)

  tested_first : TestedFirst s carry first stage stated s' r carry' stage' stated'
  tested_first =
      record {
        eighteen = (small_so, λ e. code_of t ∙ ap (λ (x : Said). (said_numbers x).code) (exactly.1 e));
        sixteen = λ n u. go n u (too_small (stands_for s) (length carry)) refl;
        keeps = λ e. let (said, x) = unread_so e in (t.returns ∙ ap (λ (z : Step). z.listener) x.answer, x.carry_is, x.stage_is, x.stated_is);
      }
    where
      go : r.code ≢ CARRY_TOO_SMALL → unfit first (length stage) (length stated) ≡ true → (b : Bool) → too_small (stands_for s) (length carry) ≡ b → r ≡ load_numbers (told_loading (refuse BadWindow 0))
      go n u true e = absurd (n (code_of t ∙ ap (λ (x : Said). (said_numbers x).code) (exactly.1 e)))
      go n u false e = t.numbers ∙ ap (λ (z : Step). said_numbers z.said) (h.bad_window e u).answer

  none_taken : (r.code ≡ CARRY_TOO_SMALL) ⊎ (unfit first (length stage) (length stated) ≡ true) → step.used ≡ 0
  none_taken e = let (said, x) = unread_so e in ap (λ (z : Step). z.used) x.answer

pub ihex_feed_tests : IhexFeedTests
ihex_feed_tests s chunk carry first stage stated taken s' r carry' stage' stated' f =
    let exactly = eighteen_exactly (stands_for s) chunk carry first stage stated f.step carry' stage' stated' (inl f.hears) in (
      tested_first s carry first stage stated f.step s' r carry' stage' stated' f.tells _ f.hears exactly,
      λ e. f.taken_is ∙ none_taken s carry first stage stated f.step s' r carry' stage' stated' f.tells _ f.hears exactly e,
    )

pub ihex_pause_tests : IhexPauseTests
ihex_pause_tests s carry first stage stated s' r carry' stage' stated' p =
    tested_first s carry first stage stated p.step s' r carry' stage' stated' p.tells _ p.pauses
    (eighteen_exactly (stands_for s) [] carry first stage stated p.step carry' stage' stated' (inr p.pauses))

-- the flags of a dump that is ready
ready_when : (flags : ℕ) → flags % 4 ≡ 3 → listener_of flags 0 0 0 0 0 0 ≡ Ready (codes.kind_of flags)
ready_when flags e = rw e

ready_only : (flags : ℕ) (k : Kind) → listener_of flags 0 0 0 0 0 0 ≡ Ready k → flags % 4 ≡ 3
ready_only flags k e = go (codes.kind_of flags) (bit flags 8) (codes.intake_of flags 0 0 0 0 0 0) (eqb (flags % 4) 0) (eqb (flags % 4) 3) refl e
  where
    go : (at : Kind) (waits : Bool) (i : Intake) (a b : Bool) → eqb (flags % 4) 3 ≡ b → (if a then Front at waits else if b then Ready at else Within i) ≡ Ready k → flags % 4 ≡ 3
    go at waits i true b q h = let z : ◌≡◌ {A = ℕ} 0 1 = cc in absurd (omega arith)
    go at waits i false true q h = eqb-true (flags % 4) 3 q
    go at waits i false false q h = let z : ◌≡◌ {A = ℕ} 0 1 = cc in absurd (omega arith)

module _ (stage stated page marks : List ℕ) (c : Committed) (page' marks' : List ℕ) where
  -- a commit that is not done changes nothing
  not_done : (l : Listener) → Commits l stage stated page marks c page' marks' → commit_code c ≢ OK → (page' ≡ page) × (marks' ≡ marks)
  not_done (Front kind cr) x n = (x.page_is, x.marks_are)
  not_done (Within s) x n = (x.page_is, x.marks_are)
  not_done (Ready kind) x n = go _ _ x.fits x.answer x.commits.page x.commits.marks
    where
      go : (a b : List ℕ) (fits : Bool) → c ≡ commit_by kind fits → page' ≡ (if fits then a else page) → marks' ≡ (if fits then b else marks) → (page' ≡ page) × (marks' ≡ marks)
      go a b true e p m = absurd (n (ap commit_code e))
      go a b false e p m = (p, m)

  -- and is refused so exactly if no dump is ready
  unready : (l : Listener) → Commits l stage stated page marks c page' marks' → ((k : Kind) → l ≡ Ready k → ⊥) → commit_code c ≡ NOT_READY
  unready (Front kind cr) x n = ap commit_code x.answer
  unready (Within s) x n = ap commit_code x.answer
  unready (Ready kind) x n = absurd (n kind refl)

  was_ready : (k : Kind) → Commits (Ready k) stage stated page marks c page' marks' → commit_code c ≢ NOT_READY
  was_ready k x e = go x.fits x.answer
    where
      go : (fits : Bool) → c ≡ commit_by k fits → ⊥
      go true q = let z = ap commit_code q in absurd (omega (arith, z, e))
      go false q = let z = ap commit_code q in absurd (omega (arith, z, e))

flags_stay : (flags : ℕ) (c : Committed) → commit_code c ≢ OK → flags_after flags c ≡ flags
flags_stay flags (Ok l) n = absurd (n refl)
flags_stay flags (Err NotReady) n = refl
flags_stay flags (Err committed.BadWindow) n = refl

pub ihex_commit_keeps : IhexCommitKeeps
ihex_commit_keeps flags stage stated page marks code flags' page' marks' x =
    let l = listener_of flags 0 0 0 0 0 0 in
    let c = x.committed in (
      (
        λ e q. was_ready stage stated page marks c page' marks' (codes.kind_of flags) (subst (λ (y : Listener). Commits y stage stated page marks c page' marks') (ready_when flags q) x.commits) (sym x.answer ∙ e),
        λ n. x.answer ∙ unready stage stated page marks c page' marks' l x.commits (λ k e. n (ready_only flags k e)),
      ),
      λ n.
          let other : commit_code c ≢ OK = λ e. n (x.answer ∙ e) in
          let (p, m) = not_done stage stated page marks c page' marks' l x.commits other in (x.flags_are ∙ flags_stay flags c other, p, m),
    )

-- ---- rows of calls

-- what was decided, by a code that decides
pub which : {step : Step} {s : Stand} {r : LoadNumbers} → TellSaid step s r → Decides r.code → (answer : Loading) × (step.said ≡ Decided answer) × (r ≡ load_numbers (told_loading answer))
which {step = step} t d =
    let (answer, e) = decides step.said (subst Decides (code_of t) d) in
    (answer, e, t.numbers ∙ ap said_numbers e)

-- a row of calls in numbers is one of the listener's
listens : {first : ℕ} {s₀ : Stand} {carry₀ stage₀ stated₀ : List ℕ} {s : Stand} {bytes carry stage stated : List ℕ} → IhexListens first s₀ carry₀ stage₀ stated₀ bytes s carry stage stated
    → Listens first (stands_for s₀) carry₀ stage₀ stated₀ bytes (stands_for s) carry stage stated
listens no_call = no_chunk
listens {first = first} {s₀ = s₀} {carry₀ = carry₀} {stage₀ = stage₀} {stated₀ = stated₀} (one_more {bytes} {s} {carry} {stage} {stated} chunk taken s' r carry' stage' stated' row f code) =
    subst (λ (l : Listener). Listens first (stands_for s₀) carry₀ stage₀ stated₀ (bytes ++ chunk) l carry' stage' stated') (sym f.tells.returns)
    (and_then chunk f.step carry' stage' stated' (listens row) f.hears (wants f.step.said (sym (code_of f.tells) ∙ code)))

pub ihex_begins : IhexBegins
ihex_begins Hex s (inl e) = rw e (refl, refl)
ihex_begins Hex s (inr e) = rw e (refl, refl)
ihex_begins SRecords s (inl e) = rw e (refl, refl)
ihex_begins SRecords s (inr e) = rw e (refl, refl)

-- the three places in numbers, and back
pub front_stands : (kind : Kind) → stand (Front kind false) ≡ at_front kind
front_stands Hex = refl
front_stands SRecords = refl

tail_stands : (kind : Kind) → stand (Within (new_tail kind)) ≡ skipping kind
tail_stands Hex = refl
tail_stands SRecords = refl

skips : (kind : Kind) → stands_for (skipping kind) ≡ Within (new_tail kind)
skips Hex = refl
skips SRecords = refl

is_ready : (kind : Kind) → stands_for (ready kind) ≡ Ready kind
is_ready Hex = refl
is_ready SRecords = refl

-- where the listener stands after a dump, by the code
stands_after : (kind : Kind) (answer : Loading) (r : LoadNumbers) → r ≡ load_numbers (told_loading answer) → (r.code ≡ OK → stand (after kind answer) ≡ ready kind) × (r.code ≢ OK → stand (after kind answer) ≡ skipping kind)
stands_after kind (Ok t) r e = (λ _. refl, λ h. absurd (h (ap (λ (n : LoadNumbers). n.code) e)))
stands_after kind (Err z) r e = (λ ok. absurd (refused_not_ok (loader_refusal z.why) (sym (ap (λ (n : LoadNumbers). n.code) e) ∙ ok)), λ _. tail_stands kind)

stands_ended : (kind : Kind) (answer : Loading) (r : LoadNumbers) → r ≡ load_numbers (told_loading answer) → (r.code ≡ OK → stand (after_end kind answer) ≡ ready kind) × (r.code ≢ OK → stand (after_end kind answer) ≡ at_front kind)
stands_ended kind (Ok t) r e = (λ _. refl, λ h. absurd (h (ap (λ (n : LoadNumbers). n.code) e)))
stands_ended kind (Err z) r e = (λ ok. absurd (refused_not_ok (loader_refusal z.why) (sym (ap (λ (n : LoadNumbers). n.code) e) ∙ ok)), λ _. front_stands kind)

-- ---- a dump

-- of a load's answer in code, in numbers
decided_as : {S : Type 0} (src : Source S) (text : List ℕ) (first : ℕ) (page marks : List ℕ) (answer : Loading) (r : LoadNumbers) (left : List ℕ)
    → (load_window src text first page marks).answer ≡ told_loading answer → r ≡ load_numbers (told_loading answer) → UsedThrough src text first page marks answer left
    → DecidedAs src text first page marks r left
decided_as src text first page marks answer r left e n u =
    record {
      numbers = n ∙ ap load_numbers (sym e);
      line = u.line;
      stops = u.stops ∙ ap (λ (v : Verdict). some (by u.line v)) (sym e);
      head = u.head;
      is_through = u.is_through;
      whole = u.whole;
    }

pub ihex_dump_decides : IhexDumpDecides
ihex_dump_decides kind cr first s₀ carry₀ stage₀ stated₀ b fit bytes s carry stage stated row chunk taken s' r carry' stage' stated' f d more page marks short even rows =
    let src = (way_of kind false).source in
    let text = dump_in cr (bytes ++ (chunk ++ more)) in
    let (answer, said, numbers) = which f.tells d in
    let (load, through, inside, there) = dump_decides kind cr first (stands_for s₀) carry₀ stage₀ stated₀ b fit bytes (stands_for s) carry stage stated (listens row) chunk f.step carry' stage' stated' answer f.hears said more page marks short even rows in
    let (is, other) = stands_after kind answer r numbers in
    let used : f.step.used ≡ taken = sym f.taken_is in (
      decided_as src text first page marks answer r (drop taken chunk ++ more) load.answer numbers
          (subst (λ (n : ℕ). UsedThrough src text first page marks answer (drop n chunk ++ more)) used through),
      subst (λ (n : ℕ). n ≤ length chunk) used inside,
      λ ok. f.tells.stand_is ∙ ap stand there ∙ is ok,
      λ h. f.tells.stand_is ∙ ap stand there ∙ other h,
    )

pub ihex_dump_says : IhexDumpSays
ihex_dump_says kind cr first s₀ carry₀ stage₀ stated₀ b fit big bytes s carry stage stated row chunk taken s' r carry' stage' stated' f =
    go f.step.said (code_of f.tells) (dump_says kind cr first (stands_for s₀) carry₀ stage₀ stated₀ b fit big bytes (stands_for s) carry stage stated (listens row) chunk f.step carry' stage' stated' f.hears)
  where
    go : (said : Said) → r.code ≡ (said_numbers said).code → (said ≡ WantsMore) ⊎ ((answer : Loading) × (said ≡ Decided answer)) → (r.code ≡ USED_UP) ⊎ Decides r.code
    go said e (inl w) = inl (e ∙ ap (λ (x : Said). (said_numbers x).code) w)
    go said e (inr (answer, d)) = inr (subst Decides (sym (e ∙ ap (λ (x : Said). (said_numbers x).code) d)) (load_code answer))

pub ihex_dump_waits : IhexDumpWaits
ihex_dump_waits kind cr first s₀ carry₀ stage₀ stated₀ b fit bytes s carry stage stated row more page marks short even rows line v d =
    dump_waits kind cr first (stands_for s₀) carry₀ stage₀ stated₀ b fit bytes (stands_for s) carry stage stated (listens row) more short line v
    (sym (stops_fit kind false cr first carry₀ stage₀ stated₀ (dump_in cr (bytes ++ more)) page marks even rows fit) ∙ d)

-- a load of the source of a kind is the load of that kind
of_kind : (kind : Kind) (text : List ℕ) (first : ℕ) (page marks : List ℕ) (r : LoadNumbers) (p m : List ℕ) → IhexLoadBy (way_of kind false).source text first page marks r p m
    → IhexLoadOf kind text first page marks r p m
of_kind Hex text first page marks r p m x = x
of_kind SRecords text first page marks r p m x = x

-- an acceptance in numbers
was_ok : (answer : Loading) (r : LoadNumbers) → r ≡ load_numbers (told_loading answer) → r.code ≡ OK → (t : Tally) × (answer ≡ Ok t)
was_ok (Ok t) r e ok = (t, refl)
was_ok (Err z) r e ok = absurd (refused_not_ok (loader_refusal z.why) (sym (ap (λ (n : LoadNumbers). n.code) e) ∙ ok))

-- IHEX_OK decides
ok_decides : (code : ℕ) → code ≡ OK → Decides code
ok_decides code e = (omega arith, λ q. omega arith)

-- of a listener that is ready the flags are all that is read
ready_flags : (kind : Kind) (s : Stand) → s ≡ ready kind → listener_of s.flags 0 0 0 0 0 0 ≡ Ready kind
ready_flags Hex s e = rw e
ready_flags SRecords s e = rw e

-- a commit of a listener that is ready, in numbers
ready_commit : (kind : Kind) (s : Stand) (l : Listener) (stage stated page marks : List ℕ) (code flags : ℕ) (page' marks' : List ℕ) → s ≡ ready kind → stands_for s ≡ l
    → (c : IhexCommit s.flags stage stated page marks code flags page' marks') → Commits l stage stated page marks c.committed page' marks'
ready_commit kind s l stage stated page marks code flags page' marks' e is c =
    subst (λ (x : Listener). Commits x stage stated page marks c.committed page' marks') (ready_flags kind s e ∙ sym (ap stands_for e ∙ is_ready kind) ∙ is) c.commits

-- what it returns once it is done
done_code : (kind : Kind) (before : ℕ) (stage stated page marks : List ℕ) (code flags : ℕ) (page' marks' : List ℕ) → (c : IhexCommit before stage stated page marks code flags page' marks')
    → c.committed ≡ Ok (Front kind false) → (code ≡ OK) × (flags ≡ kind_flag kind)
done_code kind before stage stated page marks code flags page' marks' c e =
    (c.answer ∙ ap commit_code e, c.flags_are ∙ ap (flags_after before) e ∙ ap (λ (x : Stand). x.flags) (front_stands kind))

pub ihex_fed_is_loaded : IhexFedIsLoaded
ihex_fed_is_loaded kind cr first s₀ carry₀ stage₀ stated₀ b fit bytes s carry stage stated row chunk taken s' r carry' stage' stated' f ok page marks code flags page' marks' c more short even rows =
    let d = ok_decides r.code ok in
    let (answer, said, numbers) = which f.tells d in
    let (t, is) = was_ok answer r numbers ok in
    let (same, _, stands, _) = ihex_dump_decides kind cr first s₀ carry₀ stage₀ stated₀ b fit bytes s carry stage stated row chunk taken s' r carry' stage' stated' f d more page marks short even rows in
    let commits = ready_commit kind s' f.step.listener stage' stated' page marks code flags page' marks' (stands ok) f.tells.returns c in
    let (done, pages, all) = dump_commits kind cr first (stands_for s₀) carry₀ stage₀ stated₀ b fit bytes (stands_for s) carry stage stated (listens row) chunk f.step carry' stage' stated' t f.hears
    (said ∙ ap Decided is) page marks c.committed page' marks' commits more short even rows in
    let (returned, left) = done_code kind s'.flags stage' stated' page marks code flags page' marks' c done in
    (returned, left, of_kind kind (dump_in cr (bytes ++ (chunk ++ more))) first page marks r page' marks' (record { numbers = same.numbers; page_is = pages; marks_is = all }))

-- a load that is refused leaves page and marks
refused_load : (kind : Kind) (text : List ℕ) (first : ℕ) (page marks : List ℕ) (r : LoadNumbers) → r ≡ load_numbers (load_window (way_of kind false).source text first page marks).answer → r.code ≢ OK
    → IhexLoadOf kind text first page marks r page marks
refused_load kind text first page marks r e h =
    let load = load_window (way_of kind false).source text first page marks in
    let (pages, all) = load_keeps (way_of kind false).source text first page marks r load.page load.marks (record { numbers = e; page_is = refl; marks_is = refl }) h in
    of_kind kind text first page marks r page marks (record { numbers = e; page_is = sym pages; marks_is = sym all })

pub ihex_refused_is_loaded : IhexRefusedIsLoaded
ihex_refused_is_loaded kind cr first s₀ carry₀ stage₀ stated₀ b fit bytes s carry stage stated row chunk taken s' r carry' stage' stated' f d h more page marks short even rows =
    let (same, _, _, _) = ihex_dump_decides kind cr first s₀ carry₀ stage₀ stated₀ b fit bytes s carry stage stated row chunk taken s' r carry' stage' stated' f d more page marks short even rows in
    refused_load kind (dump_in cr (bytes ++ (chunk ++ more))) first page marks r same.numbers h

-- ---- what is skipped

-- a row of calls of a listener that skips
skipping_row : (kind : Kind) {first : ℕ} {s₀ s : Stand} {carry₀ stage₀ stated₀ bytes carry stage stated : List ℕ} → s₀ ≡ skipping kind → IhexListens first s₀ carry₀ stage₀ stated₀ bytes s carry stage stated
    → Listens first (Within (new_tail kind)) carry₀ stage₀ stated₀ bytes (stands_for s) carry stage stated
skipping_row kind {first = first} {s = s} {carry₀ = carry₀} {stage₀ = stage₀} {stated₀ = stated₀} {bytes = bytes} {carry = carry} {stage = stage} {stated = stated} e row =
    subst (λ (l : Listener). Listens first l carry₀ stage₀ stated₀ bytes (stands_for s) carry stage stated) (ap stands_for e ∙ skips kind) (listens row)

pub ihex_tail_passes : IhexTailPasses
ihex_tail_passes kind first s₀ carry₀ stage₀ stated₀ e fit bytes s carry stage stated row chunk taken s' r carry' stage' stated' f more short =
    let (never, passed) = tail_passes kind first carry₀ stage₀ stated₀ fit bytes (stands_for s) carry stage stated (skipping_row kind e row) chunk f.step carry' stage' stated' f.hears more short in
    let used : f.step.used ≡ taken = sym f.taken_is in (
      λ d. let (answer, said, _) = which f.tells d in never answer said,
      λ p.
          let (through, inside, front, page, all) = passed (passes f.step.said (sym (code_of f.tells) ∙ p)) in (
            subst (λ (n : ℕ). PassedThrough kind (bytes ++ (chunk ++ more)) (drop n chunk ++ more)) used through,
            subst (λ (n : ℕ). n ≤ length chunk) used inside,
            f.tells.stand_is ∙ ap stand front ∙ front_stands kind,
            page,
            all,
          ),
    )

pub ihex_tail_says : IhexTailSays
ihex_tail_says kind first s₀ carry₀ stage₀ stated₀ e fit big bytes s carry stage stated row chunk taken s' r carry' stage' stated' f short =
    go f.step.said (code_of f.tells) (tail_says kind first carry₀ stage₀ stated₀ fit big bytes (stands_for s) carry stage stated (skipping_row kind e row) chunk f.step carry' stage' stated' f.hears short)
  where
    go : (said : Said) → r.code ≡ (said_numbers said).code → (said ≡ WantsMore) ⊎ (said ≡ Passed) → (r.code ≡ USED_UP) ⊎ (r.code ≡ PASSED)
    go said e (inl w) = inl (e ∙ ap (λ (x : Said). (said_numbers x).code) w)
    go said e (inr p) = inr (e ∙ ap (λ (x : Said). (said_numbers x).code) p)

pub ihex_tail_waits : IhexTailWaits
ihex_tail_waits kind first s₀ carry₀ stage₀ stated₀ e fit bytes s carry stage stated row more short line x =
    tail_waits kind first carry₀ stage₀ stated₀ fit bytes (stands_for s) carry stage stated (skipping_row kind e row) more short line x

-- ---- a pause

pub ihex_dump_ends : IhexDumpEnds
ihex_dump_ends kind cr first s₀ carry₀ stage₀ stated₀ b fit bytes s carry stage stated row s' r carry' stage' stated' p d page marks short even rows =
    let (answer, said, numbers) = which p.tells d in
    let (load, there) = dump_ends kind cr first (stands_for s₀) carry₀ stage₀ stated₀ b fit bytes (stands_for s) carry stage stated (listens row) p.step carry' stage' stated' answer p.pauses said page marks short even rows in
    let (is, other) = stands_ended kind answer r numbers in (
      numbers ∙ ap load_numbers (sym load.answer),
      λ ok. p.tells.stand_is ∙ ap stand there ∙ is ok,
      λ h. p.tells.stand_is ∙ ap stand there ∙ other h,
    )

pub ihex_paused_is_loaded : IhexPausedIsLoaded
ihex_paused_is_loaded kind cr first s₀ carry₀ stage₀ stated₀ b fit bytes s carry stage stated row s' r carry' stage' stated' p ok page marks code flags page' marks' c short even rows =
    let d = ok_decides r.code ok in
    let (answer, said, numbers) = which p.tells d in
    let (t, is) = was_ok answer r numbers ok in
    let (same, stands, _) = ihex_dump_ends kind cr first s₀ carry₀ stage₀ stated₀ b fit bytes s carry stage stated row s' r carry' stage' stated' p d page marks short even rows in
    let commits = ready_commit kind s' p.step.listener stage' stated' page marks code flags page' marks' (stands ok) p.tells.returns c in
    let (done, pages, all) = end_commits kind cr first (stands_for s₀) carry₀ stage₀ stated₀ b fit bytes (stands_for s) carry stage stated (listens row) p.step carry' stage' stated' t p.pauses
    (said ∙ ap Decided is) page marks c.committed page' marks' commits short even rows in
    let (returned, left) = done_code kind s'.flags stage' stated' page marks code flags page' marks' c done in
    (returned, left, of_kind kind (dump_in cr bytes) first page marks r page' marks' (record { numbers = same; page_is = pages; marks_is = all }))

pub ihex_pause_refused_is_loaded : IhexPauseRefusedIsLoaded
ihex_pause_refused_is_loaded kind cr first s₀ carry₀ stage₀ stated₀ b fit bytes s carry stage stated row s' r carry' stage' stated' p d h page marks short even rows =
    refused_load kind (dump_in cr bytes) first page marks r (ihex_dump_ends kind cr first s₀ carry₀ stage₀ stated₀ b fit bytes s carry stage stated row s' r carry' stage' stated' p d page marks short even rows).0 h

pub ihex_pause_begins : IhexPauseBegins
ihex_pause_begins s carry first stage stated s' r carry' stage' stated' p h fit =
    subst (λ (l : Listener). BeginsText l (kind_of (stands_for s)) false) (sym p.tells.returns)
    (pause_begins (stands_for s) carry first stage stated p.step carry' stage' stated' p.pauses (go (too_small (stands_for s) (length carry)) refl) fit)
  where
    go : (t : Bool) → too_small (stands_for s) (length carry) ≡ t → too_small (stands_for s) (length carry) ≡ false
    go true e = absurd (h (code_of p.tells ∙ ap (λ (x : Step). (said_numbers x.said).code) (p.pauses.small e).answer))
    go false e = e
