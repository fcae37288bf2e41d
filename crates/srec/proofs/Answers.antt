-- Each answer, from what was said: what the code's `return` has to show.
-- Assumes nothing.
use Rattle.std.proofs.Common.{◌≡◌, ℕ, ◌+◌, ◌<◌, ◌≤◌, Bool, true, false, List, length, le-ltb, lt-ltb, le-leb}
use borrow.Author.Tests.{lt-leb}
use Rattle.digits.specs.Common.{pasted}
use Rattle.std.specs.Prelude.{if◌then◌else◌}
use Rattle.record.specs.Line.{Said, says, wrong}
use Rattle.reader.specs.declared.ReaderError.{ReaderError}
use Rattle.reader.specs.declared.ReaderError.TheVariants.{PoolFull}
use Rattle.reader.specs.Told.{refusal_of}
use Rattle.srec.specs.declared.SType.{SType}
use Rattle.srec.specs.Aliases.{SAnswer}
use Rattle.srec.specs.Record.{digit_of}
use Rattle.srec.specs.Answer.{Reads, answered, poured}
use Rattle.std.specs.Prelude.{Err, Ok}

module _ (said : Said) (pool : List ℕ) (at : ℕ) where
  pub refused : (e : ReaderError) → said ≡ wrong (refusal_of e) → Reads said pool at (Err e) pool
  unfolding answered poured
  refused e s = record { answer = rw s; left = rw s }

  -- a refusal that gives way to another where a test fails
  pub chosen : (b : Bool) (r : SAnswer) (e₁ e₂ : ReaderError)
      → said ≡ (if b then wrong (refusal_of e₁) else wrong (refusal_of e₂)) → r ≡ (if b then Err e₁ else Err e₂) → Reads said pool at r pool
  chosen true r e₁ e₂ s q = rw q (refused e₁ s)
  chosen false r e₁ e₂ s q = rw q (refused e₂ s)

  -- a count or an end
  pub bare : (t : SType) (kind address : ℕ) (payload : List ℕ) → digit_of t ≡ kind → 4 ≤ kind → said ≡ says kind address payload
      → Reads said pool at (Ok (record { kind = t; address = address; at = 0; len = 0 })) pool
  unfolding answered poured
  bare t kind address payload d h s =
      record { answer = rw (s, le-ltb kind 4 h, d); left = rw (s, le-ltb kind 4 h) }

module _ (t : SType) (h : digit_of t < 4) (address : ℕ) (payload pool : List ℕ) (at : ℕ) where
  pub full : length pool < at + length payload → Reads (says (digit_of t) address payload) pool at (Err PoolFull) pool
  unfolding answered poured
  full l =
      record {
        answer = rw (lt-ltb (digit_of t) 4 h, lt-leb (at + length payload) (length pool) l);
        left = rw (lt-ltb (digit_of t) 4 h, lt-leb (at + length payload) (length pool) l);
      }

  pub placed : (len : ℕ) (pool' : List ℕ) → at + length payload ≤ length pool → length payload ≡ len → pool' ≡ pasted pool at payload
      → Reads (says (digit_of t) address payload) pool at (Ok (record { kind = t; address = address; at = at; len = len })) pool'
  unfolding answered poured
  placed len pool' r l e =
      record {
        answer = rw (lt-ltb (digit_of t) 4 h, le-leb (at + length payload) (length pool) r, l);
        left = rw (lt-ltb (digit_of t) 4 h, le-leb (at + length payload) (length pool) r) e;
      }
