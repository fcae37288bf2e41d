-- What is written is in the format, since two capital digits spell each byte and the last byte is the negated sum of the others; so it is
-- admitted, and means the record again, since a number's bytes make the number. It holds only a colon and capital digits, and no other line
-- of the format that does says the same.
-- Assumes nothing.
use Prim.Native.Nat.{ℕ, ◌+◌, ◌*◌, ◌/◌, ◌%◌, ◌<◌, ◌≤◌}
use mathlib.Core.Path.{◌≡◌, refl, sym, ◌∙◌, ap, ap₂, subst}
use mathlib.Core.List.{List, [], ◌∷◌, ◌++◌}
use native.Mathlib.Omega.{arith}
use lib.Dec.{eqb}
use lib.ListN.{length, take, drop, length-append}
use Rattle.checksum.specs.Checksum.{negated_sum}
use Rattle.checksum.proofs.Laws.{negated_small}
use Rattle.digits.specs.Common.{Every, Byte}
use Rattle.std.specs.Prelude.{if◌then◌else◌}
use Rattle.digits.specs.Digits.{number_after, big_endian}
use Rattle.record.specs.Format.{Size, type_00, type_01, type_02, type_03, type_04, type_05, Format}
use Rattle.record.specs.Meaning.{Meaning, data_at, end_of_file, extended_segment, start_segment, extended_linear, start_linear, meaning}
use Rattle.record.specs.Written.{body, written, kind_of, address_of, payload_of, two_bytes, four_bytes, Writable, Sayable}
use Rattle.digits.specs.Spelling.{spelt, Capital}
use Rattle.record.specs.Claims.{WrittenInFormat, WrittenInCapitals, OnlyInCapitals, ReadsBack, SaidIsSayable}
use Rattle.digits.proofs.Spelt.{spelt_spells, spelt_length, spelt_capitals, spelt_only, spelt_plain}
use Rattle.digits.proofs.Parts.{none_left, every_front, every_both}
use Rattle.digits.proofs.Hex.{last_small, spells_small}
use Rattle.record.proofs.Judging.{resize, size_fits, check_sums, sums_check}
use Rattle.record.proofs.Standing.{Stands, stands, admitted}

-- ---- lines

module _ (kind address : ℕ) (payload : List ℕ) where
  -- so a written line has neither LF nor CR in it
  pub written_plain : Every (λ c. 48 ≤ c) (written kind address payload)
  unfolding written
  written_plain = (omega arith, spelt_plain (body kind address payload ++ (negated_sum (body kind address payload) ∷ [])))

  pub written_length : length (written kind address payload) ≡ 11 + 2 * length payload
  unfolding written
  written_length =
      let b : List ℕ = body kind address payload in
      let e = spelt_length (b ++ (negated_sum b ∷ [])) in
      let n = length-append b (negated_sum b ∷ []) in
      omega arith

-- all of it are bytes, the checksum too
body_bytes : (kind address : ℕ) (payload : List ℕ) → Writable kind address payload
    → let b = body kind address payload in Every Byte (b ++ (negated_sum b ∷ []))
body_bytes kind address payload w =
    let k = size_fits w.sized in
    let b : List ℕ = body kind address payload in
    every_both Byte b (negated_sum b ∷ []) (omega (arith, w.most), (omega (arith, w.address_small), (omega arith, (omega arith, w.payload_bytes)))) (negated_small b, tt)

pub written_in_format : WrittenInFormat
unfolding written
written_in_format kind address payload w =
    let b : List ℕ = body kind address payload in
    record {
      digits = spelt (b ++ (negated_sum b ∷ []));
      high = address / 256;
      low = address % 256;
      check = negated_sum b;
      starts = refl;
      spells = spelt_spells (b ++ (negated_sum b ∷ [])) (body_bytes kind address payload w);
      addressed = omega arith;
      sums = check_sums (length payload) (address / 256) (address % 256) kind payload (negated_sum b) refl;
      sized = resize (omega arith) w.sized;
    }

pub written_in_capitals : WrittenInCapitals
unfolding written
written_in_capitals kind address payload w =
    let b : List ℕ = body kind address payload in
    record { digits = spelt (b ++ (negated_sum b ∷ [])); starts = refl; capitals = spelt_capitals (b ++ (negated_sum b ∷ [])) (body_bytes kind address payload w) }

-- the address and the checksum are those of the bytes that are written
pub only_in_capitals : OnlyInCapitals
unfolding written
only_in_capitals line kind address payload f c =
    let s = spells_small f.spells in
    let small : f.low < 256 = s.1.1.0 in
    let high : f.high ≡ address / 256 = omega (arith, f.addressed) in
    let low : f.low ≡ address % 256 = omega (arith, f.addressed) in
    let same : c.digits ≡ f.digits = let e = sym c.starts ∙ f.starts in cc in
    let k : Every Capital f.digits = subst (Every Capital) same c.capitals in
    let last : f.check < 256 = last_small (length payload ∷ f.high ∷ f.low ∷ kind ∷ payload) f.check f.spells in
    let check = sums_check (length payload) f.high f.low kind payload f.check last f.sums in
    f.starts ∙ ap (λ (ds : List ℕ). 58 ∷ ds) (spelt_only f.spells k ∙ rw (← check, high, low))

-- ---- records

pub writable : (m : Meaning) → Sayable m → Writable (kind_of m) (address_of m) (payload_of m)
writable (data_at offset bytes) h = record { sized = type_00 refl; most = h.1; address_small = h.0; payload_bytes = h.2 }
writable end_of_file h = record { sized = type_01 refl refl; most = omega arith; address_small = omega arith; payload_bytes = tt }
writable (extended_segment n) h = record { sized = type_02 refl refl; most = omega arith; address_small = omega arith; payload_bytes = (omega arith, (omega arith, tt)) }
writable (start_segment cs ip) h = record { sized = type_03 refl refl; most = omega arith; address_small = omega arith; payload_bytes = (omega arith, (omega arith, (omega arith, (omega arith, tt)))) }
writable (extended_linear n) h = record { sized = type_04 refl refl; most = omega arith; address_small = omega arith; payload_bytes = (omega arith, (omega arith, tt)) }
writable (start_linear n) h = record { sized = type_05 refl refl; most = omega arith; address_small = omega arith; payload_bytes = (omega arith, (omega arith, (omega arith, (omega arith, tt)))) }

two_again : (n : ℕ) → big_endian (two_bytes n) ≡ n
unfolding number_after
two_again n = omega arith

four_again : (n : ℕ) → big_endian (four_bytes n) ≡ n
unfolding number_after
four_again n = omega arith

means_again : (m : Meaning) → meaning (kind_of m) (address_of m) (payload_of m) ≡ m
unfolding meaning
means_again (data_at offset bytes) = refl
means_again end_of_file = refl
means_again (extended_segment n) = ap extended_segment (two_again n)
means_again (start_segment cs ip) = ap₂ start_segment (two_again cs) (two_again ip)
means_again (extended_linear n) = ap extended_linear (two_again n)
means_again (start_linear n) = ap start_linear (four_again n)

pub reads_back : ReadsBack
reads_back m h = record { said = admitted (written_in_format (kind_of m) (address_of m) (payload_of m) (writable m h)); means = means_again m }

-- type, address and payload of what is said: the address of any type but 00 is gone
again_two : (p : List ℕ) → length p ≡ 2 → Every Byte p → two_bytes (big_endian p) ≡ p
unfolding number_after
again_two [] n h = absurd (omega arith)
again_two (a ∷ []) n h = absurd (omega arith)
again_two (a ∷ b ∷ []) n (h, (k, u)) = ap₂ (λ (x y : ℕ). x ∷ y ∷ []) (omega arith) (omega arith)
again_two (a ∷ b ∷ c ∷ p) n h = absurd (omega arith)

pub again_four : (p : List ℕ) → length p ≡ 4 → Every Byte p
    → (two_bytes (big_endian (take 2 p)) ++ two_bytes (big_endian (drop 2 p)) ≡ p) × (four_bytes (big_endian p) ≡ p)
unfolding number_after
again_four [] n h = absurd (omega arith)
again_four (a ∷ []) n h = absurd (omega arith)
again_four (a ∷ b ∷ []) n h = absurd (omega arith)
again_four (a ∷ b ∷ c ∷ []) n h = absurd (omega arith)
again_four (a ∷ b ∷ c ∷ d ∷ []) n (h, (i, (j, (k, u)))) =
    let two : two_bytes (big_endian (a ∷ b ∷ [])) ++ two_bytes (big_endian (c ∷ d ∷ [])) ≡ a ∷ b ∷ c ∷ d ∷ [] =
    ap₂ (λ (l m : List ℕ). l ++ m) (again_two (a ∷ b ∷ []) refl (h, (i, tt))) (again_two (c ∷ d ∷ []) refl (j, (k, tt))) in
    let high : big_endian (a ∷ b ∷ c ∷ d ∷ []) / 65536 ≡ big_endian (a ∷ b ∷ []) = omega arith in
    let low : big_endian (a ∷ b ∷ c ∷ d ∷ []) % 65536 ≡ big_endian (c ∷ d ∷ []) = omega arith in
    (two, ap₂ (λ (x y : ℕ). two_bytes x ++ two_bytes y) high low ∙ two)
again_four (a ∷ b ∷ c ∷ d ∷ e ∷ p) n h = absurd (omega arith)

pub fields_again : {kind : ℕ} (address : ℕ) (payload : List ℕ) → Size kind (length payload) → Every Byte payload
    → let m = meaning kind address payload in
    (kind_of m ≡ kind) × (address_of m ≡ (if eqb kind 0 then address else 0)) × (payload_of m ≡ payload)
unfolding meaning
fields_again address payload (type_00 e) h = rw e (refl, refl, refl)
fields_again address payload (type_01 e z) h = rw e (refl, refl, sym (none_left payload z))
fields_again address payload (type_02 e z) h = rw e (refl, refl, again_two payload z h)
fields_again address payload (type_03 e z) h = rw e (refl, refl, (again_four payload z h).0)
fields_again address payload (type_04 e z) h = rw e (refl, refl, again_two payload z h)
fields_again address payload (type_05 e z) h = rw e (refl, refl, (again_four payload z h).1)

-- ---- what is said is sayable

pub two_small : (p : List ℕ) → length p ≡ 2 → Every Byte p → big_endian p < 65536
unfolding number_after
two_small [] n h = absurd (omega arith)
two_small (a ∷ []) n h = absurd (omega arith)
two_small (a ∷ b ∷ []) n (h, (k, u)) = omega arith
two_small (a ∷ b ∷ c ∷ p) n h = absurd (omega arith)

-- four bytes, as two numbers of two and as one
pub four_small : (p : List ℕ) → length p ≡ 4 → Every Byte p → (big_endian (take 2 p) < 65536) × (big_endian (drop 2 p) < 65536) × (big_endian p < 4294967296)
unfolding number_after
four_small [] n h = absurd (omega arith)
four_small (a ∷ []) n h = absurd (omega arith)
four_small (a ∷ b ∷ []) n h = absurd (omega arith)
four_small (a ∷ b ∷ c ∷ []) n h = absurd (omega arith)
four_small (a ∷ b ∷ c ∷ d ∷ []) n (h, (i, (j, (k, u)))) = (omega arith, omega arith, omega arith)
four_small (a ∷ b ∷ c ∷ d ∷ e ∷ p) n h = absurd (omega arith)

sayable : {kind : ℕ} (address : ℕ) (payload : List ℕ) → Size kind (length payload) → length payload ≤ 255 → address < 65536 → Every Byte payload
    → Sayable (meaning kind address payload)
unfolding meaning
sayable address payload (type_00 e) l a h = rw e (a, l, h)
sayable address payload (type_01 e z) l a h = rw e tt
sayable address payload (type_02 e z) l a h = rw e (two_small payload z h)
sayable address payload (type_03 e z) l a h = let f = four_small payload z h in rw e (f.0, f.1)
sayable address payload (type_04 e z) l a h = rw e (two_small payload z h)
sayable address payload (type_05 e z) l a h = rw e (four_small payload z h).2

formal_sayable : {line : List ℕ} {kind address : ℕ} {payload : List ℕ} → Format line kind address payload → Sayable (meaning kind address payload)
formal_sayable {line} {kind} {address} {payload} f =
    let s = spells_small f.spells in
    let high : f.high < 256 = s.1.0 in
    let low : f.low < 256 = s.1.1.0 in
    let len : length payload < 256 = s.0 in
    sayable address payload (resize (omega arith) f.sized) (omega arith) (omega (arith, f.addressed)) (every_front Byte payload (f.check ∷ []) s.1.1.1.1)

pub said_is_sayable : SaidIsSayable
said_is_sayable line kind address payload e = formal_sayable (subst (Stands line) e (stands line))
