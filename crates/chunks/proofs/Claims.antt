-- The claims on rows, and that each call has one outcome: a row is the one over the pieces, which are the lines as what is kept of them stands for; a reply
-- is found again from its word.
-- Assumes nothing.
use Rattle.std.proofs.Common.{◌≡◌, ℕ, ◌^◌, ◌<◌, true, eqb, List, [], ◌∷◌, map, length, sym, refl, ap, ◌∙◌, subst, ap₂, map-id, arith}
use mathlib.Core.Option
use mathlib.Core.Option.{some}
use Rattle.digits.specs.Common.{Every}
use Rattle.std.specs.Prelude.{if◌then◌else◌}
use Rattle.record.specs.Refusals.{number_of}
use Rattle.reader.specs.declared.ReaderOptions.{ReaderOptions}
use Rattle.reader.specs.declared.ReaderError.{ReaderError}
use Rattle.reader.specs.declared.ReaderError.TheVariants.{MissingStartCode, RecordTooShort, RecordTooLong, RecordNotEvenLength, ContainsInvalidCharacters, ChecksumMismatch, PayloadLengthMismatch, UnsupportedRecordType, InvalidLengthForType, PoolFull}
use Rattle.reader.specs.Aliases.{Answer}
use Rattle.reader.specs.Told.{Told, gives, refuses, done}
use Rattle.reader.specs.Lines.{lines, through}
use Rattle.reader.specs.Row.{Numbered, sayings, stopped}
use Rattle.reader.specs.Calls.{Call, replies}
use Rattle.reader.proofs.Claims.{untold, untold_told, told_apart}
use Rattle.reader.proofs.Texts.{rows, lines_few}
use Rattle.chunks.specs.declared.Chunks.{Chunks}
use Rattle.chunks.specs.declared.Place.{Place}
use Rattle.chunks.specs.declared.Place.TheVariants.{Nowhere, InChunk, InCarry}
use Rattle.chunks.specs.declared.LineReply.{LineReply}
use Rattle.chunks.specs.declared.LineStep.{LineStep}
use Rattle.chunks.specs.declared.ChunkReply.{ChunkReply}
use Rattle.chunks.specs.declared.ChunkReply.TheVariants.{Read, Refused, UsedUp, Done, CarryTooSmall}
use Rattle.chunks.specs.declared.ChunkStep.{ChunkStep}
use Rattle.chunks.specs.Begun.{nothing, look}
use Rattle.chunks.specs.Next.{Word, tells, used_up, word_of, new_chunks, Outcome, next_outcome, finish_outcome}
use Rattle.chunks.specs.Rows.{joined, Seen, seen_with, Heard, Hears, Stepped, Nth, numbered, showing}
use Rattle.chunks.specs.Claims.{Examples, JudgedAsKept, AnyCuts, AnyCutsBy, givens_of, SameRow, ShownThere, ShowsTheLine, Alike, without_pools, NothingElse, ReadsWhatIsFound, NewUnique, NextUnique, FinishUnique, NextLineUnique, LastLineUnique, ShownUnique, RefusalInLineUnique}
use Rattle.chunks.proofs.Brief.{judge_brief}
use Rattle.chunks.proofs.Reading.{next_reads, finish_reads}
use Rattle.chunks.proofs.Pieces.{pieces, pieces_lines}
use Rattle.chunks.proofs.Rows.{from_place, unseen, rows_met}
use Rattle.chunks.proofs.Kept.{kept_rows, showing_replies, said_numbered, lines_stand, shows_right, ShownRight}
use Rattle.chunks.proofs.Stops.{alike_rows, behind_stop}
use Rattle.std.specs.Prelude.{Err, Ok}

pub examples : Examples
unfolding look
examples = record { waits = refl; ends = refl; belongs = refl; passes = refl }

pub judged_as_kept : JudgedAsKept
judged_as_kept line = judge_brief line

-- ---- rows of answers

starts : (options : ReaderOptions) (carry : List ℕ) (chunks : List (List ℕ)) → unseen (new_chunks options) carry chunks ≡ pieces 0 nothing (joined chunks)
unfolding unseen from_place
starts options carry [] = refl
starts options carry (chunk ∷ chunks) = refl

pub any_cuts_by : AnyCutsBy
any_cuts_by A say Known known options carry chunks calls notes big fed =
    rows_met options say Known known fed (record { big = big; small = omega arith; options_is = refl })
    ∙ ap (map say)
    (ap (λ (left : List Nth). showing options 0 left calls) (starts options carry chunks ∙ pieces_lines 0 (joined chunks))
    ∙ kept_rows options calls 0 (numbered 1 (lines (joined chunks))))

-- a contract comes to its outcome
hears : (o : Outcome) (chunk : List ℕ) (h : Heard Seen) → Stepped o chunk h → Hears (λ (x : Seen). x) o h
hears o chunk h x =
    let m = x.meets in
    record {
      note_is = x.note_is ∙ rw (m.answer, m.state, m.shows, m.left) (as_seen o.word o.pool o.state.line o.shows);
      state_is = x.state_is ∙ m.state;
      begins = m.carry;
    }
  where
    as_seen : (w : Word) (pool : List ℕ) (line : ℕ) (shown : List ℕ) → seen_with w pool line shown ≡ Option.map (λ (x : Seen). x) (seen_with w pool line shown)
    as_seen (tells t) pool line shown = refl
    as_seen used_up pool line shown = refl

pub any_cuts : AnyCuts
any_cuts options carry chunks calls seen big fed =
    any_cuts_by Seen (λ (x : Seen). x) Stepped
    (λ s chunk carry pool at h x. hears (next_outcome s chunk carry pool at) chunk h x, λ s carry pool at h x. hears (finish_outcome s carry pool at) [] h x)
    options carry chunks calls seen big fed
    ∙ map-id (showing options 0 (numbered 1 (lines (joined chunks))) calls)

-- the row over the lines of a text, without the lines shown, is the text reader's
pub row_replies : (options : ReaderOptions) (text : List ℕ) (calls : List Call) → length text < 2 ^ 64
    → givens_of (showing options 0 (numbered 1 (lines text)) calls) ≡ replies options 0 (sayings 1 (lines text)) calls
row_replies options text calls few =
    showing_replies options calls 0 (numbered 1 (lines text))
    ∙ ap (λ (left : List Numbered). replies options 0 left calls) (said_numbered options 1 (lines text) (omega (arith, (lines_few text).0)))

pub same_row : SameRow
same_row options carry chunks calls seen givens few big fed c =
    ap givens_of (any_cuts options carry chunks calls seen big fed) ∙ row_replies options (joined chunks) calls few ∙ sym (rows options (joined chunks) few calls givens c)

pub row_shows : (options : ReaderOptions) (text : List ℕ) (calls : List Call) → length text < 2 ^ 64
    → Every (ShownRight options text) (showing options 0 (numbered 1 (lines text)) calls)
row_shows options text calls few = shows_right options text calls 0 (numbered 1 (lines text)) (lines_stand options text (omega (arith, (lines_few text).0)))

pub shows_the_line : ShowsTheLine
shows_the_line options carry chunks calls seen few big fed =
    subst (Every (ShownRight options (joined chunks))) (sym (any_cuts options carry chunks calls seen big fed)) (row_shows options (joined chunks) calls few)

pub shown_there : ShownThere
shown_there Nowhere chunk carry line x = x.holds
shown_there (InChunk from len) chunk carry line x = x.holds
shown_there (InCarry len) chunk carry line x = x.holds

pub row_alike : (options : ReaderOptions) (k : ℕ) (head text₁ text₂ : List ℕ) (calls₁ calls₂ : List Call) → Alike calls₁ calls₂
    → through k text₁ ≡ some head → through k text₂ ≡ some head → stopped options (sayings 1 (lines head)) ≡ true
    → without_pools (showing options 0 (numbered 1 (lines text₁)) calls₁) ≡ without_pools (showing options 0 (numbered 1 (lines text₂)) calls₂)
row_alike options k head text₁ text₂ calls₁ calls₂ alike t₁ t₂ stop =
    ap without_pools (behind_stop options k text₁ text₂ head calls₁ t₁ t₂ stop) ∙ alike_rows options alike 0 (numbered 1 (lines text₂))

pub nothing_else : NothingElse
nothing_else options k head carry₁ carry₂ chunks₁ chunks₂ calls₁ calls₂ seen₁ seen₂ big₁ big₂ alike t₁ t₂ stop fed₁ fed₂ =
    ap without_pools (any_cuts options carry₁ chunks₁ calls₁ seen₁ big₁ fed₁)
    ∙ row_alike options k head (joined chunks₁) (joined chunks₂) calls₁ calls₂ alike t₁ t₂ stop
    ∙ ap without_pools (sym (any_cuts options carry₂ chunks₂ calls₂ seen₂ big₂ fed₂))

-- ---- a line that was found

pub reads_what_is_found : ReadsWhatIsFound
reads_what_is_found s chunk carry pool at step r carry' pool' = (next_reads s chunk carry pool at step r carry' pool', finish_reads s carry pool at step r carry' pool')

-- ---- one outcome each

as_reply : Answer → ChunkReply
as_reply (Ok r) = Read r
as_reply (Err e) = Refused e

-- the reply of a word
unword : Word → ChunkReply
unfolding as_reply
unword (tells (gives kind ns)) = as_reply (untold (gives kind ns))
unword (tells (refuses r)) = if eqb (number_of r) 18 then CarryTooSmall else as_reply (untold (refuses r))
unword (tells done) = Done
unword used_up = UsedUp

unword_error : (e : ReaderError) → unword (word_of (Refused e)) ≡ as_reply (untold (Told.refuses (Rattle.reader.specs.Told.refusal_of e)))
unfolding unword
unword_error MissingStartCode = refl
unword_error RecordTooShort = refl
unword_error RecordTooLong = refl
unword_error RecordNotEvenLength = refl
unword_error (ContainsInvalidCharacters a) = refl
unword_error (ChecksumMismatch a b) = refl
unword_error PayloadLengthMismatch = refl
unword_error (UnsupportedRecordType a) = refl
unword_error InvalidLengthForType = refl
unword_error PoolFull = refl

unword_word : (r : ChunkReply) → unword (word_of r) ≡ r
unfolding unword as_reply
unword_word (Read r) = ap as_reply (untold_told (Ok r))
unword_word (Refused e) = unword_error e ∙ ap as_reply (untold_told (Err e))
unword_word UsedUp = refl
unword_word Done = refl
unword_word CarryTooSmall = refl

step_is : (r₁ r₂ : ChunkStep) → r₁.reply ≡ r₂.reply → r₁.state ≡ r₂.state → r₁.lies ≡ r₂.lies → r₁ ≡ r₂
step_is r₁ r₂ e f g =
    ap₂ (λ (x : ChunkReply) (y : Chunks). record { reply = x; state = y; lies = r₁.lies }) e f
    ∙ ap (λ (z : Place). record { reply = r₂.reply; state = r₂.state; lies = z }) g

pub reply_is : (r₁ r₂ : ChunkReply) → word_of r₁ ≡ word_of r₂ → r₁ ≡ r₂
reply_is r₁ r₂ e = sym (unword_word r₁) ∙ ap unword e ∙ unword_word r₂

pub next_unique : NextUnique
next_unique s chunk carry pool at r₁ r₂ carry₁ carry₂ pool₁ pool₂ x y = (
  step_is r₁ r₂ (reply_is r₁.reply r₂.reply (x.answer ∙ sym y.answer)) (x.state ∙ sym y.state) (x.lies ∙ sym y.lies),
  x.carry ∙ sym y.carry,
  x.left ∙ sym y.left,
)

pub finish_unique : FinishUnique
finish_unique s carry pool at r₁ r₂ carry₁ carry₂ pool₁ pool₂ x y = (
  step_is r₁ r₂ (reply_is r₁.reply r₂.reply (x.answer ∙ sym y.answer)) (x.state ∙ sym y.state) (x.lies ∙ sym y.lies),
  x.carry ∙ sym y.carry,
  x.left ∙ sym y.left,
)

line_step_is : (r₁ r₂ : LineStep) → r₁.reply ≡ r₂.reply → r₁.state ≡ r₂.state → r₁ ≡ r₂
line_step_is r₁ r₂ e f = ap₂ (λ (x : LineReply) (y : Chunks). record { reply = x; state = y }) e f

pub next_line_unique : NextLineUnique
next_line_unique s chunk carry r₁ r₂ carry₁ carry₂ x y = (line_step_is r₁ r₂ (x.answer ∙ sym y.answer) (x.state ∙ sym y.state), x.carry ∙ sym y.carry)

pub last_line_unique : LastLineUnique
last_line_unique s carry r₁ r₂ carry₁ carry₂ x y = (line_step_is r₁ r₂ (x.answer ∙ sym y.answer) (x.state ∙ sym y.state), x.carry ∙ sym y.carry)

pub new_unique : NewUnique
new_unique options r r' x y = x.answer ∙ sym y.answer

pub new_with_options_unique : NewUnique
new_with_options_unique = new_unique

pub shown_unique : ShownUnique
shown_unique Nowhere chunk carry line line' x y = (x.begins ∙ sym y.begins, x.holds ∙ sym y.holds)
shown_unique (InChunk from len) chunk carry line line' x y = (x.begins ∙ sym y.begins, x.holds ∙ sym y.holds)
shown_unique (InCarry len) chunk carry line line' x y = (x.begins ∙ sym y.begins, x.holds ∙ sym y.holds)

pub refusal_in_line_unique : RefusalInLineUnique
refusal_in_line_unique e skipped r r' x y = let h : Err r ≡ Err r' = told_apart (Err r) (Err r') (ap refuses (x ∙ sym y)) in cc
