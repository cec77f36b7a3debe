-- How many numbers of the work table a listing takes: all that the crates above know of the table's layout.
use Rattle.std.specs.Prelude.{ℕ}

abbrev pub listing_room : ℕ
listing_room = 720
