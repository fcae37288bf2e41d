-- Answers in numbers, as C has them.
-- Assumes nothing.
use Rattle.std.specs.Prelude.{ℕ, ◌+◌, ◌≡◌, Bool, List, [], ◌∷◌, get_or}
use Rattle.std.proofs.Math.Option.{Option, none, some}
use Rattle.std.specs.Prelude.{if◌then◌else◌}
use Rattle.record.specs.Refusals.{Refusal, refusal, pool_full, carry_too_small, bad_table}
use Rattle.reader.specs.Told.{Told, gives, refuses, done}
use Rattle.writer.specs.Told.{ToldWritten, wrote, refuses as refuses-to-write}
use Rattle.chunks.specs.Next.{Word, tells, used_up}
use Rattle.steps.specs.Steps.{Start, cs_with_ip, linear_address, Verdict, accepted, refused}
use Rattle.steps.specs.Ask.{Asked, states, not_stated, refuses as refuses-to-say}
use Rattle.salvage.specs.Told.{ToldSalvage, saves, refuses as refuses-to-salvage}
use Rattle.codes.specs.declared.Coded.{Coded}

-- a code, and values
pub record Message : Type 0 where
  pub code : ℕ
  pub values : List ℕ

abbrev pub message : (code : ℕ) (values : List ℕ) → Message
message code values = record { code = code; values = values }

-- the codes that are not a record's type: IHEX_OK, IHEX_REFUSED, to which the refusal's number is added, and so on
abbrev pub OK : ℕ
OK = 0

abbrev pub REFUSED : ℕ
REFUSED = 256

abbrev pub DONE : ℕ
DONE = 512

abbrev pub USED_UP : ℕ
USED_UP = 513

abbrev pub NOT_STATED : ℕ
NOT_STATED = 514

abbrev pub BAD_RECORD : ℕ
BAD_RECORD = 1024

-- a value from the first on, 0 where there is none
abbrev pub value : Message → (i : ℕ) → ℕ
value m i = get_or m.values i 0

abbrev pub refused_with : Refusal → Message
refused_with (refusal number values) = message (REFUSED + number) values

-- what is returned for a full pool: IHEX_REFUSED + IHEX_POOL_FULL
abbrev pub POOL_FULL : ℕ
POOL_FULL = (refused_with pool_full).code

-- and for refusal 18: IHEX_REFUSED + IHEX_CARRY_TOO_SMALL
abbrev pub CARRY_TOO_SMALL : ℕ
CARRY_TOO_SMALL = (refused_with carry_too_small).code

-- and for refusal 23: IHEX_REFUSED + IHEX_BAD_TABLE, which is 256 + 23
abbrev pub BAD_TABLE : ℕ
BAD_TABLE = (refused_with bad_table).code

-- the code of a table, if it is refused or not
pub record CodeTable (bad : Bool) (r : ℕ) : Type 0 where
  pub answer : r ≡ (if bad then BAD_TABLE else OK)

-- a record's type as it is, and DONE for "done"
abbrev pub reading : Told → Message
reading (gives kind numbers) = message kind numbers
reading (refuses r) = refused_with r
reading done = message DONE []

-- the same of a text in chunks, and USED_UP for "used up"
abbrev pub reading_chunk : Word → Message
reading_chunk (tells t) = reading t
reading_chunk used_up = message USED_UP []

-- OK and the length, and BAD_RECORD where what is to be written is not a record
abbrev pub writing : Option ToldWritten → Message
writing none = message BAD_RECORD []
writing (some (wrote place)) = message OK (place ∷ [])
writing (some (refuses-to-write r)) = refused_with r

-- a start in numbers: CS and IP, or the linear address
abbrev pub start_values : Option Start → List ℕ
start_values none = []
start_values (some (cs_with_ip cs ip)) = cs ∷ ip ∷ []
start_values (some (linear_address address)) = address ∷ []

-- OK, the number of data records, and the start
abbrev pub loading : Verdict → Message
loading (accepted tally) = message OK (tally.records ∷ start_values tally.start)
loading (refused r line) = refused_with r

-- OK, the length of the clean file, and how many entries the list has
abbrev pub salvaging : ToldSalvage → Message
salvaging (saves length entries) = message OK (length ∷ entries ∷ [])
salvaging (refuses-to-salvage r) = refused_with r

-- OK and the byte, or NOT_STATED
abbrev pub asking : Asked → Message
asking (states byte) = message OK (byte ∷ [])
asking not_stated = message NOT_STATED []
asking (refuses-to-say r line) = refused_with r

-- the number of the line that a refusal names, and 0 where it names none
abbrev pub line_at : Verdict → ℕ
line_at (accepted tally) = 0
line_at (refused r line) = line

pub record LineAt (v : Verdict) (r : ℕ) : Type 0 where
  pub answer : r ≡ line_at v

-- the same of a byte that was asked
abbrev pub asked_line : Asked → ℕ
asked_line (states byte) = 0
asked_line not_stated = 0
asked_line (refuses-to-say r line) = line

pub record AskedLine (a : Asked) (r : ℕ) : Type 0 where
  pub answer : r ≡ asked_line a

-- the kinds of starts: IHEX_NO_START, IHEX_START_SEGMENT_ADDRESS and IHEX_START_LINEAR_ADDRESS
abbrev pub kind_of_start : Option Start → ℕ
kind_of_start none = 0
kind_of_start (some (cs_with_ip cs ip)) = 3
kind_of_start (some (linear_address address)) = 5

-- the kind of the start that a load reports, and 0 where it is refused
abbrev pub start_kind : Verdict → ℕ
start_kind (accepted tally) = kind_of_start tally.start
start_kind (refused r line) = 0

pub record StartKind (v : Verdict) (r : ℕ) : Type 0 where
  pub answer : r ≡ start_kind v

-- what a load returns in C: its code, the line that a refusal names, the kind of start, and three values
pub record LoadNumbers : Type 0 where
  pub code : ℕ
  pub line : ℕ
  pub start : ℕ
  pub a : ℕ
  pub b : ℕ
  pub c : ℕ

abbrev pub load_numbers : Verdict → LoadNumbers
load_numbers v =
    let m = loading v in
    record { code = m.code; line = line_at v; start = start_kind v; a = value m 0; b = value m 1; c = value m 2 }

-- what is returned of a byte that was asked: the code, the line that a refusal names, and two values
pub record AskNumbers : Type 0 where
  pub code : ℕ
  pub line : ℕ
  pub a : ℕ
  pub b : ℕ

abbrev pub ask_numbers : Asked → AskNumbers
ask_numbers x = let m = asking x in record { code = m.code; line = asked_line x; a = value m 0; b = value m 1 }

-- an answer in four numbers
pub record Numbers (m : Message) (r a b c : ℕ) : Type 0 where
  pub code_is : r ≡ m.code
  pub a_is : a ≡ value m 0
  pub b_is : b ≡ value m 1
  pub c_is : c ≡ value m 2

abbrev pub CodedAs : Message → Coded → Type 0
CodedAs m r = Numbers m r.code r.a r.b r.c
