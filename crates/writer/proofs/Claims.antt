-- The claims of `specs/Claims.antt` on one record and on an object's text, proved: from the laws of the format and of what is read back.
-- Assumes nothing.
use Rattle.std.proofs.Common.{◌≡◌, ℕ, ◌+◌, ◌≤◌, List, [], ◌∷◌, ◌++◌, map, length, take, drop, sym, refl, ap, ◌∙◌, ap₂, append_assoc, arith, length-append, le-leb}
use mathlib.Core.Option.{none}
use Rattle.digits.specs.Common.{Every, Byte}
use Rattle.record.specs.declared.Record.{Record}
use Rattle.record.specs.declared.Record.TheVariants.{Data, EndOfFile, ExtendedSegmentAddress, StartSegmentAddress, ExtendedLinearAddress, StartLinearAddress}
use Rattle.record.specs.Record.{Inside, meant}
use Rattle.record.specs.Meaning.{Meaning}
use Rattle.record.specs.Line.{says, judge}
use Rattle.record.specs.Written.{written, kind_of, address_of, payload_of, line_of, Sayable}
use Rattle.digits.proofs.Parts.{every_front, every_take, every_drop, part_length}
use Rattle.record.proofs.Writing.{written_in_format, written_in_capitals, only_in_capitals, written_plain, writable, reads_back, said_is_sayable, fields_again}
use Rattle.record.proofs.Claims.{admits}
use Rattle.digits.proofs.Hex.{spells_small}
use Rattle.writer.specs.Line.{line_refusal, line, ended_line, line_text}
use Rattle.writer.specs.Object.{joined_lines, object}
use Rattle.writer.specs.Claims.{InRange, LineInFormat, LineFor, WritesLine, OneLine, Canonical, LineInjective, LinePlain, TextFor, no_line, then_line, WritesText, OneText, ObjectInjective, Examples}
use Rattle.writer.proofs.Answers.{stands_there}
use Rattle.writer.proofs.Records.{fine_data}
use Rattle.writer.proofs.Objects.{unless_chars, object_whole}

-- ---- one record

-- what has a line can be said in one
pub sayable : (r : Record) (pool : List ℕ) → InRange r → Every Byte pool → line_refusal r (length pool) ≡ none → Sayable (meant r pool)
sayable (Data offset at len) pool i b f =
    let p = fine_data offset at len (length pool) f in
    let n = part_length pool at len p.0 in
    (i, omega arith, every_take Byte len (drop at pool) (every_drop Byte at pool b))
sayable EndOfFile pool i b f = tt
sayable (ExtendedSegmentAddress a) pool i b f = i
sayable (StartSegmentAddress cs ip) pool i b f = i
sayable (ExtendedLinearAddress a) pool i b f = i
sayable (StartLinearAddress a) pool i b f = i

-- its line is in the format, and in capitals
line_for : (r : Record) (pool : List ℕ) → InRange r → Every Byte pool → line_refusal r (length pool) ≡ none → LineFor r pool (line r pool)
line_for r pool i b f =
    let m = meant r pool in
    let w = writable m (sayable r pool i b f) in
    record { formal = written_in_format (kind_of m) (address_of m) (payload_of m) w; capitals = written_in_capitals (kind_of m) (address_of m) (payload_of m) w }

pub line_in_format : LineInFormat
line_in_format r pool cs i b e =
    let p = unless_chars (line_refusal r (length pool)) (line r pool) cs e in
    rw p.1 (line_for r pool i b p.0).formal

pub writes_line : WritesLine
writes_line r pool out n out' i b w =
    let s = (stands_there (line_text r pool) out n out' w).0 in
    let p = unless_chars (line_refusal r (length pool)) (line r pool) (take n out') s in
    rw p.1 (line_for r pool i b p.0)

-- both are the line that is written
pub one_line : OneLine
one_line r pool l l' f f' =
    let m = meant r pool in
    only_in_capitals l (kind_of m) (address_of m) (payload_of m) f.formal f.capitals
    ∙ sym (only_in_capitals l' (kind_of m) (address_of m) (payload_of m) f'.formal f'.capitals)

pub line_plain : LinePlain
line_plain r pool = written_plain (kind_of (meant r pool)) (address_of (meant r pool)) (payload_of (meant r pool))

-- a record inside the pool whose meaning a line can hold has no fault
no_fault : (r : Record) (pool : List ℕ) → Inside r (length pool) → Sayable (meant r pool) → line_refusal r (length pool) ≡ none
no_fault (Data offset at len) pool i s =
    let n = part_length pool at len i in
    rw (le-leb (at + len) (length pool) i, le-leb len 255 (omega (arith, s.1)))
no_fault EndOfFile pool i s = refl
no_fault (ExtendedSegmentAddress a) pool i s = refl
no_fault (StartSegmentAddress cs ip) pool i s = refl
no_fault (ExtendedLinearAddress a) pool i s = refl
no_fault (StartLinearAddress a) pool i s = refl

pub canonical : Canonical
canonical l kind address payload r pool e m i =
    let f = (admits l kind address payload).0 e in
    let s = spells_small f.spells in
    let a = fields_again address payload f.sized (every_front Byte payload (f.check ∷ []) s.1.1.1.1) in
    let t : Sayable (meant r pool) = rw m (said_is_sayable l kind address payload e) in
    rw (no_fault r pool i t, m, a.0, a.1, a.2)

-- two meanings with the same line
same_meaning : (m m' : Meaning) → Sayable m → Sayable m' → line_of m ≡ line_of m' → m ≡ m'
same_meaning m m' s s' e =
    let r = reads_back m s in
    let r' = reads_back m' s' in
    let q : says (kind_of m) (address_of m) (payload_of m) ≡ says (kind_of m') (address_of m') (payload_of m') = sym r.said ∙ ap judge e ∙ r'.said in
    let k : kind_of m ≡ kind_of m' = cc in
    let a : address_of m ≡ address_of m' = cc in
    let p : payload_of m ≡ payload_of m' = cc in
    sym r.means ∙ rw (k, a, p) r'.means

pub line_injective : LineInjective
line_injective r r' pool pool' cs i i' b b' e e' =
    let p = unless_chars (line_refusal r (length pool)) (line r pool) cs e in
    let p' = unless_chars (line_refusal r' (length pool')) (line r' pool') cs e' in
    same_meaning (meant r pool) (meant r' pool') (sayable r pool i b p.0) (sayable r' pool' i' b' p'.0) (sym p.1 ∙ p'.1)

-- ---- an object

-- a row without LF, up to the first LF
first_line : (l l' t t' : List ℕ) → Every (λ c. 48 ≤ c) l → Every (λ c. 48 ≤ c) l' → l ++ (10 ∷ t) ≡ l' ++ (10 ∷ t') → (l ≡ l') × (t ≡ t')
first_line [] [] t t' h h' e = (refl, cc)
first_line [] (c ∷ l') t t' h (k, h') e = let z : 10 ≡ c = cc in absurd (omega arith)
first_line (c ∷ l) [] t t' (k, h) h' e = let z : c ≡ 10 = cc in absurd (omega arith)
first_line (c ∷ l) (d ∷ l') t t' (k, h) (k', h') e =
    let q : l ++ (10 ∷ t) ≡ l' ++ (10 ∷ t') = cc in
    let z : c ≡ d = cc in
    let p = first_line l l' t t' h h' q in
    (ap₂ (λ (x : ℕ) (xs : List ℕ). x ∷ xs) z p.0, p.1)

not_none : (r : Record) (rs : List Record) (pool : List ℕ) → joined_lines (r ∷ rs) pool ≡ [] → ⊥
unfolding joined_lines
not_none r rs pool e =
    let l = ap length e in
    let m = length-append (ended_line r pool) (joined_lines rs pool) in
    let n = length-append (line r pool) (10 ∷ []) in
    omega arith

-- records that have their lines, and the same text
same_lines : (rs rs' : List Record) (pool pool' : List ℕ) → Every InRange rs → Every InRange rs' → Every Byte pool → Every Byte pool'
    → Every (λ r. line_refusal r (length pool) ≡ none) rs → Every (λ r. line_refusal r (length pool') ≡ none) rs'
    → joined_lines rs pool ≡ joined_lines rs' pool' → map (λ r. meant r pool) rs ≡ map (λ r. meant r pool') rs'
unfolding joined_lines
same_lines [] [] pool pool' i i' b b' f f' e = refl
same_lines [] (r ∷ rs) pool pool' i i' b b' f f' e = absurd (not_none r rs pool' (sym e))
same_lines (r ∷ rs) [] pool pool' i i' b b' f f' e = absurd (not_none r rs pool e)
same_lines (r ∷ rs) (r' ∷ rs') pool pool' (i, is) (i', is') b b' (f, fs) (f', fs') e =
    let q = sym (append_assoc (line r pool) (10 ∷ []) (joined_lines rs pool)) ∙ e ∙ append_assoc (line r' pool') (10 ∷ []) (joined_lines rs' pool') in
    let p = first_line (line r pool) (line r' pool') (joined_lines rs pool) (joined_lines rs' pool') (line_plain r pool) (line_plain r' pool') q in
    ap₂ (λ (m : Meaning) (ms : List Meaning). m ∷ ms)
    (same_meaning (meant r pool) (meant r' pool') (sayable r pool i b f) (sayable r' pool' i' b' f') p.0)
    (same_lines rs rs' pool pool' is is' b b' fs fs' p.1)

-- records that have their lines have a text
text_for : (rs : List Record) (pool : List ℕ) → Every InRange rs → Every Byte pool → Every (λ r. line_refusal r (length pool) ≡ none) rs → TextFor pool rs (joined_lines rs pool)
unfolding joined_lines
text_for [] pool i b f = no_line
text_for (r ∷ rs) pool (i, is) b (f, fs) =
    rw append_assoc (then_line (line r pool) (joined_lines rs pool) (line_for r pool i b f) (text_for rs pool is b fs))

pub writes_text : WritesText
writes_text rs pool out n out' i b w =
    let t = object_whole rs pool (take n out') (stands_there (object rs pool) out n out' w).0 in
    rw t.lined (text_for rs pool i b t.fine)

same_text : (pool : List ℕ) {rs : List Record} {t t' : List ℕ} → TextFor pool rs t → TextFor pool rs t' → t ≡ t'
same_text pool no_line no_line = refl
same_text pool (then_line {r} {rs} l rest f s) (then_line l' rest' f' s') =
    ap₂ (λ (x y : List ℕ). x ++ (10 ∷ y)) (one_line r pool l l' f f') (same_text pool s s')

pub one_text : OneText
one_text rs pool t t' s s' = same_text pool s s'

pub object_injective : ObjectInjective
object_injective rs rs' pool pool' cs i i' b b' e e' =
    let w = object_whole rs pool cs e in
    let w' = object_whole rs' pool' cs e' in
    same_lines rs rs' pool pool' i i' b b' w.fine w'.fine (sym w.lined ∙ w'.lined)

pub examples : Examples
unfolding written object
examples =
    record {
      end_line = λ pool. refl;
      segment_line = λ pool. refl;
      start_line = λ pool. refl;
      end_alone = λ pool. refl;
      thirteen_first = λ pool. refl;
      three_ends = λ pool. refl;
    }
