-- What falls with each call of `listing::put_decimal` by itself: the number.
-- Assumes nothing.
use Rattle.listing.proofs.+put_decimal.Given as goal

abbrev pub decreases-put_decimal : goal.decreases-put_decimal
decreases-put_decimal l = l.n
