-- No second answer meets the contract of an entry point: it says by an equation what each number and each buffer is.
-- Assumes nothing.
use Prim.Native.Nat.{ℕ}
use mathlib.Core.Path.{◌≡◌, sym, ◌∙◌}
use mathlib.Core.Option.{Option}
use mathlib.Core.List.{List, []}
use Rattle.checksum.proofs.Claims.{checksum_unique}
use Rattle.reader.specs.Told.{Told}
use Rattle.writer.specs.Text.{Text}
use Rattle.steps.specs.Source.{Source}
use Rattle.intel.specs.Placing.{intel}
use Rattle.srecload.specs.Placing.{s_records}
use Rattle.chunks.specs.Next.{Outcome, next_outcome, finish_outcome}
use Rattle.codes.specs.Codes.{Message, Numbers}
use Rattle.ihex.specs.Claims.{IhexChecksumUnique, OneReadLine, IhexReadRecordUnique, IhexReadSrecordUnique, IhexNextUnique, OneChunkRead, IhexNextChunkUnique, IhexFinishUnique, IhexShownUnique, OneWroteText, IhexToRecordStringUnique, IhexToSrecordStringUnique, IhexCreateObjectFileRepresentationUnique, OneLoad, IhexLoadUnique, IhexLoadSrecordsUnique, IhexPageFileLengthUnique, IhexWritePageUnique}

pub ihex_checksum_unique : IhexChecksumUnique
ihex_checksum_unique = checksum_unique

same_numbers : {m : Message} {r a b c r' a' b' c' : ℕ} → Numbers m r a b c → Numbers m r' a' b' c' → (r ≡ r') × (a ≡ a') × (b ≡ b') × (c ≡ c')
same_numbers x y = (x.code_is ∙ sym y.code_is, x.a_is ∙ sym y.a_is, x.b_is ∙ sym y.b_is, x.c_is ∙ sym y.c_is)

one_read_line : (t : Told) (pool : List ℕ) → OneReadLine t pool
one_read_line t pool r a b c p r' a' b' c' p' x y = (same_numbers x.answer y.answer, x.left ∙ sym y.left)

pub ihex_read_record_unique : IhexReadRecordUnique
ihex_read_record_unique line pool at = one_read_line _ _

pub ihex_read_srecord_unique : IhexReadSrecordUnique
ihex_read_srecord_unique line pool at = one_read_line _ _

pub ihex_next_unique : IhexNextUnique
ihex_next_unique s text pool at r i l f a b c p r' i' l' f' a' b' c' p' x y = (
  same_numbers x.answer y.answer,
  (x.position_is ∙ sym y.position_is, x.line_is ∙ sym y.line_is, x.flags_is ∙ sym y.flags_is),
  x.left ∙ sym y.left,
)

one_chunk_read : (x : Outcome) (chunk : List ℕ) → OneChunkRead x chunk
one_chunk_read x chunk r i l e u m f w o n a b c k p r' i' l' e' u' m' f' w' o' n' a' b' c' k' p' y z =
    let g = y.stands in
    let h = z.stands in (
      same_numbers y.answer z.answer,
      (g.position_is ∙ sym h.position_is, g.line_is ∙ sym h.line_is, g.empties_is ∙ sym h.empties_is, g.used_is ∙ sym h.used_is, g.skipped_is ∙ sym h.skipped_is, g.flags_is ∙ sym h.flags_is),
      (g.spot.lies_is ∙ sym h.spot.lies_is, g.spot.from_is ∙ sym h.spot.from_is, g.spot.len_is ∙ sym h.spot.len_is),
      y.carry ∙ sym z.carry,
      y.left ∙ sym z.left,
    )

pub ihex_next_chunk_unique : IhexNextChunkUnique
ihex_next_chunk_unique s chunk carry pool at = one_chunk_read (next_outcome s chunk carry pool at) chunk

pub ihex_finish_unique : IhexFinishUnique
ihex_finish_unique s carry pool at = one_chunk_read (finish_outcome s carry pool at) []

pub ihex_shown_unique : IhexShownUnique
ihex_shown_unique p chunk carry start r start' r' x y = (x.start_is ∙ sym y.start_is, x.len_is ∙ sym y.len_is)

one_wrote_text : (t : Option Text) (out : List ℕ) → OneWroteText t out
one_wrote_text t out r v o r' v' o' x y = (x.code_is ∙ sym y.code_is, x.value_is ∙ sym y.value_is, x.left ∙ sym y.left)

pub ihex_to_record_string_unique : IhexToRecordStringUnique
ihex_to_record_string_unique kind number second at len pool out = one_wrote_text _ out

pub ihex_to_srecord_string_unique : IhexToSrecordStringUnique
ihex_to_srecord_string_unique kind address at len pool out = one_wrote_text _ out

pub ihex_create_object_file_representation_unique : IhexCreateObjectFileRepresentationUnique
ihex_create_object_file_representation_unique list pool out = one_wrote_text _ out

one_load : {S : Type 0} (src : Source S) → OneLoad src
one_load src text first page marks r p m r' p' m' x y = (x.numbers ∙ sym y.numbers, x.page_is ∙ sym y.page_is, x.marks_is ∙ sym y.marks_is)

pub ihex_load_unique : IhexLoadUnique
ihex_load_unique = one_load intel

pub ihex_load_srecords_unique : IhexLoadSrecordsUnique
ihex_load_srecords_unique = one_load s_records

pub ihex_page_file_length_unique : IhexPageFileLengthUnique
ihex_page_file_length_unique first page marks r v r' v' x y = (x.code_is ∙ sym y.code_is, x.value_is ∙ sym y.value_is)

pub ihex_write_page_unique : IhexWritePageUnique
ihex_write_page_unique first page marks out = one_wrote_text _ out
