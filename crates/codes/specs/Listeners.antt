-- A listener in numbers, as C has it: its flags, and the numbers of the dump that it is in.
-- Assumes nothing.
use Rattle.std.specs.Prelude.{ℕ, ◌+◌, ◌*◌, ◌/◌, ◌%◌, ◌≤◌, ◌≡◌, Bool, true, false, eqb}
use Rattle.std.specs.Prelude.{if◌then◌else◌}
use Rattle.record.specs.Refusals.{bad_window}
use Rattle.steps.specs.declared.LoaderError.TheVariants.{MissingEndOfFileRecord}
use Rattle.steps.specs.Aliases.{Loading}
use Rattle.steps.specs.Aliases.{Stated as Start}
use Rattle.steps.specs.declared.Start.TheVariants.{Segment, Linear}
use Rattle.steps.specs.Told.{told_loading}
use Rattle.loader.specs.declared.Base.{Base}
use Rattle.loader.specs.declared.Base.TheVariants as base
use Rattle.intake.specs.declared.Kind.{Kind}
use Rattle.intake.specs.declared.Kind.TheVariants.{Hex, SRecords}
use Rattle.intake.specs.declared.Intake.{Intake}
use Rattle.listen.specs.declared.Listener.{Listener}
use Rattle.listen.specs.declared.Listener.TheVariants.{Front, Within, Ready}
use Rattle.listen.specs.declared.Said.{Said}
use Rattle.listen.specs.declared.Said.TheVariants.{WantsMore, Decided, Passed, Quiet, CarryTooSmall}
use Rattle.listen.specs.Aliases.{Committed}
use Rattle.listen.specs.declared.CommitError.TheVariants as committed
use Rattle.codes.specs.declared.Coded.{Coded}
use Rattle.codes.specs.declared.Stand.{Stand}
use Rattle.codes.specs.Codes.{OK, DONE, USED_UP, CARRY_TOO_SMALL, refused_with, LoadNumbers, load_numbers}
use Rattle.codes.specs.States.{bit}
use Rattle.std.specs.Prelude.{Err, None, Ok, Some}
use Rattle.steps.specs.Aliases.{refuse}

-- ---- the flags

abbrev pub kind_of : (flags : ℕ) → Kind
kind_of flags = if bit flags 4 then SRecords else Hex

abbrev pub kind_flag : Kind → ℕ
kind_flag Hex = 0
kind_flag SRecords = 4

abbrev pub base_of : (flags number : ℕ) → Base
base_of flags number = if bit flags 16 then base.Linear number else base.Segment number

abbrev pub base_flag : Base → ℕ
base_flag (base.Segment n) = 0
base_flag (base.Linear n) = 16

abbrev pub base_number : Base → ℕ
base_number (base.Segment n) = n
base_number (base.Linear n) = n

-- CS is the high half, and IP the low one
abbrev pub start_of : (flags number : ℕ) → Start
start_of flags number = if bit flags 64 then Some (Linear number) else if bit flags 32 then Some (Segment (number / 65536) (number % 65536)) else None

abbrev pub start_flag : Start → ℕ
start_flag None = 0
start_flag (Some (Segment cs ip)) = 32
start_flag (Some (Linear address)) = 64

abbrev pub is_segment : Start → Bool
is_segment None = false
is_segment (Some (Segment cs ip)) = true
is_segment (Some (Linear address)) = false

abbrev pub is_linear : Start → Bool
is_linear None = false
is_linear (Some (Segment cs ip)) = false
is_linear (Some (Linear address)) = true

abbrev pub start_number : Start → ℕ
start_number None = 0
start_number (Some (Segment cs ip)) = 65536 * cs + ip
start_number (Some (Linear address)) = address

-- each flag is its share of the flags
pub record KindFlag (kind : Kind) (r : ℕ) : Type 0 where
  pub is : r ≡ kind_flag kind
  pub small : r ≤ 4

pub record BaseFlag (base : Base) (r : ℕ) : Type 0 where
  pub is : r ≡ base_flag base
  pub small : r ≤ 16

pub record StartFlag (start : Start) (r : ℕ) : Type 0 where
  pub is : r ≡ start_flag start
  pub small : r ≤ 64

-- a start comes back from its flag and its number
pub record StartNumber (start : Start) (r : ℕ) : Type 0 where
  pub is : r ≡ start_number start
  pub returns : (flags : ℕ) → bit flags 64 ≡ is_linear start → bit flags 32 ≡ is_segment start → start_of flags r ≡ start

-- ---- a listener

-- in a dump, or passing over
abbrev pub intake_of : (flags skipped base begin lines used records : ℕ) → Intake
intake_of flags skipped base begin lines used records =
    record {
      kind = kind_of flags;
      tail = eqb (flags % 4) 2;
      line = lines;
      used = used;
      skipped = skipped;
      cr = bit flags 8;
      base = base_of flags base;
      tally = record { records = records; start = start_of flags begin };
    }

-- the first two bits say where it stands: at the front of a text, in a dump, passing over, or ready
abbrev pub listener_of : (flags skipped base begin lines used records : ℕ) → Listener
listener_of flags skipped base begin lines used records =
    if eqb (flags % 4) 0 then Front (kind_of flags) (bit flags 8)
    else if eqb (flags % 4) 3 then Ready (kind_of flags)
    else Within (intake_of flags skipped base begin lines used records)

abbrev pub bare : (flags : ℕ) → Stand
bare flags = record { flags = flags; skipped = 0; base = 0; begin = 0; lines = 0; used = 0; records = 0 }

abbrev pub within_flags : Intake → ℕ
within_flags s =
    1
    + ((if s.tail then 1 else 0)
    + (kind_flag s.kind + ((if s.cr then 8 else 0) + (base_flag s.base + start_flag s.tally.start))))

-- what is not used is 0
abbrev pub stand : Listener → Stand
stand (Front kind cr) = bare (kind_flag kind + (if cr then 8 else 0))
stand (Within s) =
    record {
      flags = within_flags s;
      skipped = s.skipped;
      base = base_number s.base;
      begin = start_number s.tally.start;
      lines = s.line;
      used = s.used;
      records = s.tally.records;
    }
stand (Ready kind) = bare (3 + kind_flag kind)

-- the listener that these numbers stand for
abbrev pub stands_for : Stand → Listener
stands_for s = listener_of s.flags s.skipped s.base s.begin s.lines s.used s.records

-- the contracts of `listener_from` and `stand_of`: the numbers of a listener stand for it
pub record ListenerFrom (flags skipped base begin lines used records : ℕ) (r : Listener) : Type 0 where
  pub answer : r ≡ listener_of flags skipped base begin lines used records

pub record StandOf (l : Listener) (r : Stand) : Type 0 where
  pub answer : r ≡ stand l
  pub returns : stands_for r ≡ l

-- ---- what is said

abbrev pub PASSED : ℕ
PASSED = 515

abbrev pub NOT_READY : ℕ
NOT_READY = 516

-- and for refusal 16: IHEX_REFUSED + IHEX_BAD_WINDOW
abbrev pub BAD_WINDOW : ℕ
BAD_WINDOW = (refused_with bad_window).code

-- a code, and nothing else
abbrev pub code_alone : ℕ → LoadNumbers
code_alone n = record { code = n; line = 0; start = 0; a = 0; b = 0; c = 0 }

-- what is said in numbers: a dump that is decided as a load, and all else by its code
abbrev pub said_numbers : Said → LoadNumbers
said_numbers WantsMore = code_alone USED_UP
said_numbers (Decided l) = load_numbers (told_loading l)
said_numbers Passed = code_alone PASSED
said_numbers Quiet = code_alone DONE
said_numbers CarryTooSmall = code_alone CARRY_TOO_SMALL

-- the contracts of `code_said`, `said_line` and `said_start`
pub record CodeSaid (said : Said) (r : Coded) : Type 0 where
  pub code_is : r.code ≡ (said_numbers said).code
  pub a_is : r.a ≡ (said_numbers said).a
  pub b_is : r.b ≡ (said_numbers said).b
  pub c_is : r.c ≡ (said_numbers said).c

pub record SaidLine (said : Said) (r : ℕ) : Type 0 where
  pub answer : r ≡ (said_numbers said).line

pub record SaidStart (said : Said) (r : ℕ) : Type 0 where
  pub answer : r ≡ (said_numbers said).start

-- ---- a commit, and a load that was made elsewhere

abbrev pub commit_code : Committed → ℕ
commit_code (Ok l) = OK
commit_code (Err committed.NotReady) = NOT_READY
commit_code (Err committed.BadWindow) = BAD_WINDOW

pub record CodeCommitted (c : Committed) (r : ℕ) : Type 0 where
  pub answer : r ≡ commit_code c

-- code 0 is that it was accepted
abbrev pub answer_of : (code : ℕ) → Loading
answer_of code = if eqb code OK then Ok (record { records = 0; start = None }) else refuse MissingEndOfFileRecord 0

pub record AnswerFrom (code : ℕ) (r : Loading) : Type 0 where
  pub answer : r ≡ answer_of code
