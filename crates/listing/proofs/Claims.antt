-- The claims of `specs/Claims.antt`, proved. The examples compute; an answer is found again from what is told; a reply is shown as in a turn of the listing.
-- Assumes nothing.
use Prim.Native.Nat.{ℕ}
use mathlib.Core.Path.{◌≡◌, refl, sym, ◌∙◌, ap}
use mathlib.Core.Bool.{Bool}
use mathlib.Core.List.{List}
use Rattle.record.specs.Line.{judge}
use Rattle.reader.specs.Row.{row}
use Rattle.listing.specs.Aliases.{Listed}
use Rattle.listing.specs.Listing.{listing}
use Rattle.listing.specs.Listed.{ToldListed, wrote, no_room, told_listed, Writes}
use Rattle.listing.specs.Claims.{Example, ExamplePlace, ListUnique, ListReplyUnique, ListFirstUnique, ListLastUnique, ShownAsListed, RoomForEach, ListingOptionsUnique, VerdictAfterUnique, ExitStatusUnique, TextStatusUnique}
use Rattle.listing.proofs.Turning.{spoken}
use Rattle.std.specs.Prelude.{None, Some}

pub example : Example
unfolding listing row judge
example = refl

pub example_place : ExamplePlace
unfolding listing row judge
example_place = refl

untold : ToldListed → Listed
untold (wrote n) = Some n
untold no_room = None

untold_told : (r : Listed) → untold (told_listed r) ≡ r
unfolding untold
untold_told (Some n) = refl
untold_told None = refl

writes_unique : {b : Bool} {xs out : List ℕ} (r r' : Listed) (o o' : List ℕ) → Writes b xs out r o → Writes b xs out r' o' → (r ≡ r') × (o ≡ o')
writes_unique r r' o o' x y =
    (sym (untold_told r) ∙ ap untold (x.answer ∙ sym y.answer) ∙ untold_told r', x.left ∙ sym y.left)

pub list_unique : ListUnique
list_unique input out = writes_unique

pub list_reply_unique : ListReplyUnique
list_reply_unique reply pool out = writes_unique

pub list_first_unique : ListFirstUnique
list_first_unique out = writes_unique

pub list_last_unique : ListLastUnique
list_last_unique count out = writes_unique

pub shown_as_listed : ShownAsListed
shown_as_listed line pool reply pool' a = (spoken pool a.size reply pool' line (judge line) refl a.tells a.holds).shows

pub room_for_each : RoomForEach
room_for_each line pool reply pool' out a = (spoken pool a.size reply pool' line (judge line) refl a.tells a.holds).room out

pub listing_options_unique : ListingOptionsUnique
listing_options_unique r r' x y = x.answer ∙ sym y.answer

pub verdict_after_unique : VerdictAfterUnique
verdict_after_unique verdict reply r r' x y = x.answer ∙ sym y.answer

pub exit_status_unique : ExitStatusUnique
exit_status_unique verdict r r' x y = x.answer ∙ sym y.answer

pub text_status_unique : TextStatusUnique
text_status_unique input r r' x y = x.answer ∙ sym y.answer
