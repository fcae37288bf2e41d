-- The claims of `specs/Writes.antt`: the code 0 says that the text was written, and the writer's own claims say the rest.
-- Assumes nothing.
use Prim.Native.Nat.{ℕ, ◌+◌}
use mathlib.Core.Path.{◌≡◌, refl, sym, ◌∙◌, ap, subst}
use mathlib.Core.Logic.{◌≢◌}
use mathlib.Core.Bool.{Bool, true, false}
use mathlib.Core.Option.{Option, none, some, map}
use mathlib.Core.List.{List}
use native.Mathlib.Omega.{arith}
use lib.Dec.{leb}
use lib.ListN.{length}
use Rattle.digits.specs.Common.{pasted}
use Rattle.std.specs.Prelude.{if◌then◌else◌}
use Rattle.record.specs.Refusals.{output_full}
use Rattle.record.specs.declared.Record.{Record}
use Rattle.writer.specs.Told.{ToldWritten, wrote, refuses}
use Rattle.writer.specs.Text.{Text, chars, refused, place_behind, if_room, Writes}
use Rattle.writer.specs.Line.{line_text}
use Rattle.writer.specs.Object.{object}
use Rattle.writer.specs.Reasons.{WhyLine, WhyObject, faulty, no_room, written}
use Rattle.writer.proofs.Answers.{stands_there, rest_untouched}
use Rattle.writer.proofs.Reasons.{line_reason, object_reason, one_reason}
use Rattle.srec.specs.declared.SType.{SType}
use Rattle.srec.specs.declared.SRecord.{SRecord}
use Rattle.srec.specs.Faults.{Unnamed}
use Rattle.srec.specs.Writer as s-writer
use Rattle.srec.specs.Reasons as srec
use Rattle.srec.proofs.Naming.{unnamed_none, none_unnamed}
use Rattle.srec.proofs.Reasons as srec-reasons
use Rattle.entries.specs.Entry.{type_named}
use Rattle.entries.proofs.Types.{by_none, none_named}
use Rattle.codes.specs.Codes.{OK, BAD_RECORD, writing}
use Rattle.codes.proofs.Says.{wrote_it}
use Rattle.ihex.specs.Entries.{WroteText}
use Rattle.ihex.specs.Writes.{NothingAfterTheLength, RefusalKeepsOutput, WriteReasoned, IhexToRecordStringReasons, IhexToSrecordStringReasons, IhexToSrecordStringBad, IhexCreateObjectReasons}
use Rattle.std.specs.Prelude.{Ok}

-- so a text that is there was written
pub as_written : (t : Text) (out : List ℕ) (n : ℕ) (out' : List ℕ) → WroteText (some t) out OK n out' → Writes t out 0 (Ok n) out'
as_written t out n out' x = record { answer = wrote_it (if_room (place_behind t 0) (length out)) n x.code_is x.value_is; left = x.left }

pub nothing_after_the_length : NothingAfterTheLength
nothing_after_the_length none out n out' x = absurd (omega (arith, x.code_is))
nothing_after_the_length (some t) out n out' x =
    let w = as_written t out n out' x in
    let (e, fits) = stands_there t out n out' w in
    (ap some e, fits, (rest_untouched t out 0 n out' w).1)

pub refusal_keeps_output : RefusalKeepsOutput
refusal_keeps_output none out r v out' x h = x.left
refusal_keeps_output (some (refused w)) out r v out' x h = x.left
refusal_keeps_output (some (chars cs)) out r v out' x h = go (leb (0 + length cs) (length out)) x.code_is x.left
  where
    go : (b : Bool) → r ≡ (writing (some (if b then wrote (0 + length cs) else refuses output_full))).code → out' ≡ (if b then pasted out 0 cs else out) → out' ≡ out
    go true e l = absurd (h e)
    go false e l = l

-- ---- reasons

-- what is returned for a text that is there, by a reason for it that no other answer has
reasoned : (Why : ToldWritten → Type 0) (t : Text) (out : List ℕ) (r v : ℕ) (out' : List ℕ) → WroteText (some t) out r v out'
    → Why (if_room (place_behind t 0) (length out)) → ((a b : ToldWritten) → Why a → Why b → a ≡ b) → WriteReasoned Why r v
reasoned Why t out r v out' x why one =
    let a = if_room (place_behind t 0) (length out) in
    record { answer = a; why = why; code_is = x.code_is; value_is = x.value_is; only = λ b because. one b a because why }

pub ihex_to_record_string_reasons : IhexToRecordStringReasons
ihex_to_record_string_reasons kind number second at len pool out r v out' w x e =
    reasoned (WhyLine x (length pool) (length out)) (line_text x pool) out r v out'
    (subst (λ (o : Option Record). WroteText (map (λ (y : Record). line_text y pool) o) out r v out') e w)
    (line_reason x pool (length out)) (one_reason.of_line x (length pool) (length out))

pub ihex_to_srecord_string_reasons : IhexToSrecordStringReasons
ihex_to_srecord_string_reasons kind address at len pool out r v out' w x e =
    reasoned (srec.WhyLine x (length pool) (length out)) (s-writer.line_text x pool) out r v out'
    (subst (λ (o : Option SRecord). WroteText (map (λ (y : SRecord). s-writer.line_text y pool) o) out r v out') e w)
    (srec-reasons.line_reason x pool (length out)) (srec-reasons.one_reason x (length pool) (length out))

-- no reason is one for IHEX_BAD_RECORD
not_bad : (x : SRecord) (size room : ℕ) (t : ToldWritten) → srec.WhyLine x size room t → (writing (some t)).code ≢ BAD_RECORD
not_bad x size room _ (faulty _ (srec.outside h)) e = omega arith
not_bad x size room _ (faulty _ (srec.holds_none h s)) e = omega arith
not_bad x size room _ (faulty _ (srec.too_long n h s w l)) e = omega arith
not_bad x size room _ (faulty _ (srec.too_wide n h s w l a)) e = omega arith
not_bad x size room _ (no_room n s l h) e = omega arith
not_bad x size room _ (written n s l h) e = omega arith

-- the text of an S-record, by the type that is named
abbrev pub srecord_text_by : (address at len : ℕ) (pool : List ℕ) → Option SType → Option Text
srecord_text_by address at len pool o =
    map (λ (x : SRecord). s-writer.line_text x pool) (map (λ (t : SType). record { kind = t; address = address; at = at; len = len }) o)

pub ihex_to_srecord_string_bad : IhexToSrecordStringBad
ihex_to_srecord_string_bad kind address at len pool out r v out' w = (go (type_named kind) refl w, back)
  where
    go : (o : Option SType) → type_named kind ≡ o → WroteText (srecord_text_by address at len pool o) out r v out' → r ≡ BAD_RECORD → Unnamed kind
    go none e w h = unnamed_none kind (none_named kind e)
    go (some t) e w h =
        let x : SRecord = record { kind = t; address = address; at = at; len = len } in
        absurd (not_bad x (length pool) (length out) _ (srec-reasons.line_reason x pool (length out)) (sym w.code_is ∙ h))

    back : Unnamed kind → r ≡ BAD_RECORD
    back u = (subst (λ (o : Option SType). WroteText (srecord_text_by address at len pool o) out r v out') (by_none kind (none_unnamed kind u)) w).code_is

pub ihex_create_object_reasons : IhexCreateObjectReasons
ihex_create_object_reasons list pool out r v out' w rs e =
    reasoned (WhyObject rs (length pool) (length out)) (object rs pool) out r v out'
    (subst (λ (o : Option (List Record)). WroteText (map (λ (y : List Record). object y pool) o) out r v out') e w)
    (object_reason rs pool (length out)) (one_reason.of_object rs (length pool) (length out))
