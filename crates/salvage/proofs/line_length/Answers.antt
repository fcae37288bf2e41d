-- The payload of each type has its length.
use Rattle.std.proofs.Common.{◌≡◌, ℕ, ◌⊎◌, inl, inr}
use Rattle.record.specs.declared.Record.{Record}
use Rattle.record.specs.declared.Record.TheVariants.{ExtendedSegmentAddress, StartSegmentAddress, ExtendedLinearAddress, StartLinearAddress}
use Rattle.salvage.specs.Helpers.{LineLength}
use Rattle.salvage.proofs.Counting.{length_of_data, length_of}
use Rattle.salvage.proofs.line_length.Goals as goal

two_bytes : (x : Record) → ((n : ℕ) × (x ≡ ExtendedSegmentAddress n)) ⊎ ((n : ℕ) × (x ≡ ExtendedLinearAddress n)) → LineLength x 15
two_bytes x (inl (n, e)) = length_of x 15 (λ pool. rw e)
two_bytes x (inr (n, e)) = length_of x 15 (λ pool. rw e)

four_bytes : (x : Record) → ((cs : ℕ) × (ip : ℕ) × (x ≡ StartSegmentAddress cs ip)) ⊎ ((n : ℕ) × (x ≡ StartLinearAddress n)) → LineLength x 19
four_bytes x (inl (cs, ip, e)) = length_of x 19 (λ pool. rw e)
four_bytes x (inr (n, e)) = length_of x 19 (λ pool. rw e)

pub returns-in-Data : goal.returns-in-Data
returns-in-Data c =
    length_of_data c.args.given c.in-Data.offset c.in-Data.at c.in-Data.len c.in-Data.is

pub returns-in-EndOfFile : goal.returns-in-EndOfFile
returns-in-EndOfFile c = length_of c.args.given 11 (λ pool. rw c.in-EndOfFile.is)

pub returns-in-ExtendedSegmentAddress : goal.returns-in-ExtendedSegmentAddress
returns-in-ExtendedSegmentAddress c = two_bytes c.args.given c.in-ExtendedSegmentAddress.is

pub returns-in-StartSegmentAddress : goal.returns-in-StartSegmentAddress
returns-in-StartSegmentAddress c = four_bytes c.args.given c.in-StartSegmentAddress.is
