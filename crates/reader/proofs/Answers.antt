-- Each answer, from what was said: what the code's `return` has to show.
-- Assumes nothing.
use Rattle.std.proofs.Common.{◌≡◌, ℕ, ◌+◌, ◌<◌, ◌≤◌, ◌≢◌, Bool, true, false, List, [], ◌∷◌, length, sym, refl, ap₂, arith, le-leb}
use borrow.Author.Tests.{lt-leb}
use Rattle.digits.specs.Common.{pasted}
use Rattle.std.specs.Prelude.{if◌then◌else◌}
use Rattle.record.specs.Refusals.{invalid_length_for_type}
use Rattle.record.specs.Line.{Said, says, wrong, size}
use Rattle.record.specs.Meaning.{meaning}
use Rattle.record.specs.declared.Record.{Record}
use Rattle.record.specs.declared.Record.TheVariants.{Data}
use Rattle.record.proofs.Judging.{kinds}
use Rattle.reader.specs.Aliases.{Answer}
use Rattle.reader.specs.declared.ReaderError.{ReaderError}
use Rattle.reader.specs.declared.ReaderError.TheVariants.{InvalidLengthForType, PoolFull}
use Rattle.reader.specs.Told.{gives, told, refusal_of}
use Rattle.reader.specs.Answer.{Reads, given, kept, answered, poured}
use Rattle.reader.specs.Helpers.{Special, fitting, misfitting}
use Rattle.std.specs.Prelude.{Err, Ok}

module _ (said : Said) (pool : List ℕ) (at : ℕ) where
  pub refused : (e : ReaderError) → said ≡ wrong (refusal_of e) → Reads said pool at (Err e) pool
  unfolding answered poured
  refused e s = record { answer = rw s; left = rw s }

  gave : (r : Record) (kind address : ℕ) (payload : List ℕ)
      → said ≡ says kind address payload → 0 < kind → kind ≤ 5 → ((address n at : ℕ) → told (Ok r) ≡ given (meaning kind address payload) n at) → Reads said pool at (Ok r) pool
  unfolding answered poured
  gave r kind address payload s least most tells =
      record { answer = rw s (tells address (length pool) at); left = rw s (sym (untouched kind most least)) }
    where
      untouched : (k : ℕ) → k ≤ 5 → 0 < k → kept (meaning k address payload) pool at ≡ pool
      untouched k h =
          kinds (λ (k : ℕ). 0 < k → kept (meaning k address payload) pool at ≡ pool)
          (λ z. absurd (omega arith)) (λ z. refl) (λ z. refl) (λ z. refl) (λ z. refl) (λ z. refl) k h

  pub gave_special : {r : Answer} (kind address : ℕ) (payload : List ℕ) → 0 < kind → kind ≤ 5
      → (size kind ≡ length payload → said ≡ says kind address payload) → (size kind ≢ length payload → said ≡ wrong invalid_length_for_type)
      → Special kind payload r → Reads said pool at r pool
  gave_special kind address payload least most fine misfit (fitting r e tells) = gave r kind address payload (fine e) least most tells
  gave_special kind address payload least most fine misfit (misfitting h) = refused InvalidLengthForType (misfit h)

  -- a refusal that gives way to another where a test fails
  pub chosen : (b : Bool) (e e₁ e₂ : ReaderError)
      → said ≡ (if b then wrong (refusal_of e₁) else wrong (refusal_of e₂)) → e ≡ (if b then e₁ else e₂) → Reads said pool at (Err e) pool
  chosen true e e₁ e₂ s q = rw q (refused e₁ s)
  chosen false e e₁ e₂ s q = rw q (refused e₂ s)

module _ (address : ℕ) (payload pool : List ℕ) (at : ℕ) where
  pub full : length pool < at + length payload → Reads (says 0 address payload) pool at (Err PoolFull) pool
  unfolding answered poured
  full h = record { answer = rw (lt-leb (at + length payload) (length pool) h); left = rw (lt-leb (at + length payload) (length pool) h) }

  pub placed : (offset len : ℕ) (pool' : List ℕ) → at + length payload ≤ length pool
      → offset ≡ address → length payload ≡ len → pool' ≡ pasted pool at payload
      → Reads (says 0 address payload) pool at (Ok (Data offset at len)) pool'
  unfolding answered poured
  placed offset len pool' h o l e =
      record {
        answer = rw (le-leb (at + length payload) (length pool) h) (ap₂ (λ (x y : ℕ). gives 0 (x ∷ at ∷ y ∷ [])) o (sym l));
        left = rw (le-leb (at + length payload) (length pool) h) e;
      }
