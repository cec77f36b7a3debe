-- What the crates above know of a work table: that it holds a view. They lean on `held`'s contracts and on `ProperView`, and never look at the numbers. Nothing here says where the numbers come from: `load`
-- leaves the view of the listing that the text is, and a table that holds another, as that of a listing less some constraints, is served by the same functions.
use Rattle.std.specs.Prelude.{ℕ, ◌+◌, ◌≤◌, ◌<◌, ◌≡◌, List, get_or, Result, Ok, Err}
use Rattle.text.specs.Texts.{Text}
use Rattle.listings.specs.Refusals.{Reading, accepted, refusal, reading_of}
use Rattle.listings.specs.Listings.{listing_of}
use Rattle.entries.specs.Tables.{Fits, owners_at, parents_at}
use Rattle.reading.specs.Views.{View, ProperView, view_of, view_at}
use Rattle.entries.specs.declared.tables.Tally.{Tally}
use Rattle.reading.specs.declared.reader.Refusal.{Refusal}

-- the number of one of n, counted from 1
abbrev pub OneOf : ℕ → ℕ → Type 0
OneOf n i = (1 ≤ i) × (i ≤ n)

-- the table, with its counts, holds a view: the counts fit, each line has its collection and its constraint, and the view is as it should be
pub record Holds (s : Text) (t : Tally) (w : List ℕ) : Type 0 where
  pub fits : Fits s t w
  pub owners : (k : ℕ) → k < t.patterns → OneOf t.collections (get_or w (owners_at + k) 0)
  pub parents : (k : ℕ) → k < t.patterns → OneOf t.constraints (get_or w (parents_at + k) 0)
  pub proper : ProperView (view_at s t w)

-- what reading answered
abbrev pub reading_shown : Result Tally Refusal → Reading
reading_shown (Ok t) = accepted
reading_shown (Err r) = refusal r.fault r.line

-- a whole listing: it is accepted, and the table holds its view
pub record HoldsListing (s : Text) (t : Tally) (w : List ℕ) : Type 0 where
  pub accepts : reading_of s ≡ accepted
  pub holds : Holds s t w
  pub view : view_at s t w ≡ view_of (listing_of s)

-- v is the view of an accepted listing, as a value
pub record ListingHeld (s : Text) (v : View) : Type 0 where
  pub accepts : reading_of s ≡ accepted
  pub proper : ProperView v
  pub view : v ≡ view_of (listing_of s)

abbrev pub LoadHolds : Text → Result Tally Refusal → List ℕ → Type 0
LoadHolds s (Ok t) w = HoldsListing s t w
LoadHolds s (Err r) w = Unit {0}

pub record LoadOutcome (s : Text) (out : Result Tally Refusal) (w : List ℕ) : Type 0 where
  pub answer : reading_shown out ≡ reading_of s
  pub holds : LoadHolds s out w
