-- What is written is in the format, since two capital digits spell each byte and the last byte is the complement of the sum of the others; so it
-- is admitted, and says the record again, since an address's bytes make the address. It holds only an S and
-- capital digits, and no other line of the format that does says the same.
-- Assumes nothing.
use Rattle.std.proofs.Common.{◌≡◌, ℕ, ◌+◌, ◌*◌, ◌<◌, ◌≤◌, true, eqb, List, [], ◌∷◌, ◌++◌, length, drop, sym, refl, ap, ◌∙◌, subst, inl, arith, length-append, le-ltb, eqb-true}
use Rattle.digits.specs.Common.{Every, Byte}
use Rattle.digits.specs.Digits.{number_after, big_endian}
use Rattle.digits.specs.Hex.{Hex, decimal, capital, small, Spells}
use Rattle.digits.specs.Spelling.{spelt, Capital}
use Rattle.digits.proofs.Tests.{branch}
use Rattle.digits.proofs.Hex.{spells_small}
use Rattle.digits.proofs.Parts.{none_left, every_front, every_after, every_both}
use Rattle.digits.proofs.Spelt.{spelt_spells, spelt_length, spelt_plain, spelt_capitals, spelt_only}
use Rattle.record.proofs.Writing.{two_small, four_small, again_four}
use Rattle.srec.specs.Types.{is_named, width}
use Rattle.srec.specs.Line.{complement_sum, count_of}
use Rattle.srec.specs.Format.{Width, body, layout, Complements, Format}
use Rattle.srec.specs.Written.{in_bytes, beyond, body_of, written, Writable}
use Rattle.srec.specs.Claims.{WrittenInFormat, WrittenInCapitals, OnlyInCapitals, ReadsBack, SaidIsWritable, SaidIsBounded}
use Rattle.srec.proofs.Naming.{each_type, named_small, named_wide, wide_named, width_few, size_fits, fits_size}
use Rattle.srec.proofs.Judging.{check_complements, complements_check}
use Rattle.srec.proofs.Standing.{Stands, stands, admitted}

-- ---- addresses

-- as many bytes as were asked for
pub address_length : (kind address : ℕ) → is_named kind ≡ true → length (in_bytes (width kind) address) ≡ width kind
unfolding width
address_length kind a e = each_type (λ (k : ℕ). length (in_bytes (width k) a) ≡ width k) refl refl refl refl refl refl refl refl kind e

record Again (n a : ℕ) : Type 0 where
  bytes : Every Byte (in_bytes n a)
  same : big_endian (in_bytes n a) ≡ a

in_two : (a : ℕ) → a < 65536 → Again 2 a
unfolding number_after
in_two a h = record { bytes = (omega arith, (omega arith, tt)); same = omega arith }

in_three : (a : ℕ) → a < 16777216 → Again 3 a
unfolding number_after
in_three a h = record { bytes = (omega arith, (omega arith, (omega arith, tt))); same = omega arith }

in_four : (a : ℕ) → a < 4294967296 → Again 4 a
unfolding number_after
in_four a h = record { bytes = (omega arith, (omega arith, (omega arith, (omega arith, tt)))); same = omega arith }

-- and they make the address again
address_again : (kind a : ℕ) → is_named kind ≡ true → a < beyond (width kind) → Again (width kind) a
unfolding width beyond
address_again kind a e h =
    each_type (λ (k : ℕ). a < beyond (width k) → Again (width k) a)
    (in_two a) (in_two a) (in_three a) (in_four a) (in_two a) (in_four a) (in_three a) (in_two a) kind e h

-- ---- lines

module _ (kind address : ℕ) (payload : List ℕ) where
  -- a written line has neither LF nor CR in it
  pub written_plain : Every (λ c. 48 ≤ c) (written kind address payload)
  unfolding written
  written_plain = let b = body_of kind address payload in (omega arith, (omega arith, spelt_plain (b ++ (complement_sum b ∷ []))))

  pub written_length : is_named kind ≡ true → length (written kind address payload) ≡ 6 + 2 * width kind + 2 * length payload
  unfolding written
  written_length k =
      let b : List ℕ = body_of kind address payload in
      let e = spelt_length (b ++ (complement_sum b ∷ [])) in
      let n = length-append b (complement_sum b ∷ []) in
      let m = length-append (in_bytes (width kind) address) payload in
      let a = address_length kind address k in
      omega arith

complement_small : (bs : List ℕ) → complement_sum bs < 256
unfolding complement_sum
complement_small bs = omega arith

-- all of it are bytes, the checksum too
body_bytes : (kind address : ℕ) (payload : List ℕ) → Writable kind address payload
    → let b = body_of kind address payload in Every Byte (b ++ (complement_sum b ∷ []))
body_bytes kind address payload w =
    let place : List ℕ = in_bytes (width kind) address in
    let b : List ℕ = body_of kind address payload in
    let few = width_few kind in
    let a = address_again kind address w.named w.address_small in
    let most = w.most in
    let first : count_of kind payload < 256 = omega arith in
    (first, every_both Byte (place ++ payload) (complement_sum b ∷ []) (every_both Byte place payload a.bytes w.payload_bytes) (complement_small b, tt))

pub written_in_format : WrittenInFormat
unfolding written
written_in_format kind address payload w =
    let place : List ℕ = in_bytes (width kind) address in
    let b : List ℕ = body_of kind address payload in
    let check : ℕ = complement_sum b in
    let size : length place ≡ width kind = address_length kind address w.named in
    let count : count_of kind payload ≡ length place + length payload + 1 = omega arith in
    record {
      type_digit = 48 + kind;
      digits = spelt (b ++ (check ∷ []));
      place = place;
      check = check;
      starts = refl;
      typed = decimal refl (named_small kind w.named);
      wide = subst (Width kind) (sym size) (named_wide kind w.named);
      spells = subst (λ (n : ℕ). Spells (spelt (b ++ (check ∷ []))) (layout n place payload check)) count (spelt_spells (b ++ (check ∷ [])) (body_bytes kind address payload w));
      addressed = sym (address_again kind address w.named w.address_small).same;
      sums = subst (λ (n : ℕ). Complements (body n place payload) check) count (check_complements b check refl);
      sized = fits_size kind (length payload) w.sized;
    }

pub written_in_capitals : WrittenInCapitals
unfolding written
written_in_capitals kind address payload w =
    let b : List ℕ = body_of kind address payload in
    let small = named_small kind w.named in
    record {
      digits = (48 + kind) ∷ spelt (b ++ (complement_sum b ∷ []));
      starts = refl;
      capitals = (inl (omega arith, omega arith), spelt_capitals (b ++ (complement_sum b ∷ [])) (body_bytes kind address payload w));
    }

-- the bytes of an address are the only ones of their number: with zeros before them they are the four of the address
pub place_again : (kind : ℕ) (p : List ℕ) → is_named kind ≡ true → length p ≡ width kind → Every Byte p → in_bytes (width kind) (big_endian p) ≡ p
unfolding width number_after
place_again kind p e l h =
    each_type (λ (k : ℕ). length p ≡ width k → in_bytes (width k) (big_endian p) ≡ p) two two three four two four three two kind e l
  where
    two : length p ≡ 2 → in_bytes 2 (big_endian p) ≡ p
    two n = ap (drop 2) (again_four (0 ∷ 0 ∷ p) (omega arith) (omega arith, (omega arith, h))).1

    three : length p ≡ 3 → in_bytes 3 (big_endian p) ≡ p
    three n = ap (drop 1) (again_four (0 ∷ p) (omega arith) (omega arith, h)).1

    four : length p ≡ 4 → in_bytes 4 (big_endian p) ≡ p
    four n = (again_four p n h).1

-- a type's digit is a decimal one
typed_only : {c x : ℕ} → Hex c x → x < 10 → c ≡ 48 + x
typed_only (decimal e h) few = e
typed_only (capital e l h) few = absurd (omega arith)
typed_only (small e l h) few = absurd (omega arith)

pub only_in_capitals : OnlyInCapitals
unfolding written
only_in_capitals line kind address payload f c =
    let w = wide_named f.wide in
    let size : length f.place ≡ width kind = sym w.1 in
    let s = spells_small f.spells in
    let both : Every Byte (f.place ++ payload) = every_front Byte (f.place ++ payload) (f.check ∷ []) s.1 in
    let place : f.place ≡ in_bytes (width kind) address =
    sym (ap (in_bytes (width kind)) f.addressed ∙ place_again kind f.place w.0 size (every_front Byte f.place payload both)) in
    let count : length f.place + length payload + 1 ≡ count_of kind payload = omega arith in
    let first : f.type_digit ≡ 48 + kind = typed_only f.typed (named_small kind w.0) in
    let same : c.digits ≡ f.type_digit ∷ f.digits = let e = sym c.starts ∙ f.starts in cc in
    let k : Every Capital (f.type_digit ∷ f.digits) = subst (Every Capital) same c.capitals in
    let check = complements_check (body (length f.place + length payload + 1) f.place payload) f.check f.sums in
    f.starts
    ∙ ap (λ (t : ℕ). 83 ∷ t ∷ f.digits) first
    ∙ ap (λ (ds : List ℕ). 83 ∷ (48 + kind) ∷ ds) (spelt_only f.spells k.1 ∙ rw (← check, count, place))

pub reads_back : ReadsBack
reads_back kind address payload w = admitted (written_in_format kind address payload w)

-- ---- what is said is writable

three_small : (p : List ℕ) → length p ≡ 3 → Every Byte p → big_endian p < 16777216
unfolding number_after
three_small [] n h = absurd (omega arith)
three_small (a ∷ []) n h = absurd (omega arith)
three_small (a ∷ b ∷ []) n h = absurd (omega arith)
three_small (a ∷ b ∷ c ∷ []) n (h, (i, (j, u))) = omega arith
three_small (a ∷ b ∷ c ∷ d ∷ p) n h = absurd (omega arith)

pub address_small : (kind : ℕ) (p : List ℕ) → is_named kind ≡ true → length p ≡ width kind → Every Byte p → big_endian p < beyond (width kind)
unfolding width beyond
address_small kind p e l h =
    each_type (λ (k : ℕ). length p ≡ width k → big_endian p < beyond (width k)) two two three four two four three two kind e l
  where
    two : length p ≡ 2 → big_endian p < 65536
    two e = two_small p e h

    three : length p ≡ 3 → big_endian p < 16777216
    three e = three_small p e h

    four : length p ≡ 4 → big_endian p < 4294967296
    four e = (four_small p e h).2

formal_writable : {line : List ℕ} {kind address : ℕ} {payload : List ℕ} → Format line kind address payload → Writable kind address payload
formal_writable {line} {kind} {address} {payload} f =
    let w = wide_named f.wide in
    let k : width kind ≡ length f.place = w.1 in
    let s = spells_small f.spells in
    let count : length f.place + length payload + 1 < 256 = s.0 in
    let both : Every Byte (f.place ++ payload) = every_front Byte (f.place ++ payload) (f.check ∷ []) s.1 in
    record {
      named = w.0;
      sized = size_fits f.sized;
      most = omega arith;
      address_small = subst (λ (a : ℕ). a < beyond (width kind)) (sym f.addressed) (address_small kind f.place w.0 (sym k) (every_front Byte f.place payload both));
      payload_bytes = every_after Byte f.place payload both;
    }

pub said_is_writable : SaidIsWritable
said_is_writable line kind address payload e = formal_writable (subst (Stands line) e (stands line))

beyond_most : (n : ℕ) → beyond n ≤ 4294967296
unfolding beyond
beyond_most n =
    branch (λ (b : ℕ). b ≤ 4294967296) (eqb n 2) _ _ (λ e. omega arith)
    (λ e. branch (λ (b : ℕ). b ≤ 4294967296) (eqb n 3) _ _ (λ e. omega arith) (λ e. omega arith))

pub said_is_bounded : SaidIsBounded
said_is_bounded line kind address payload e =
    let w = said_is_writable line kind address payload e in
    let few = width_few kind in
    record {
      named = w.named;
      address_small = omega (arith, w.address_small, beyond_most (width kind));
      most = omega (arith, w.most);
      payload_bytes = w.payload_bytes;
      bare = λ k. none_left payload (eqb-true (length payload) 0 (rw (le-ltb kind 4 k) at w.sized));
    }
