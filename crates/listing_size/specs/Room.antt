-- The room that every listing fits in, in bytes: `listing_fits` (proofs/ListingFits.antt).
use Rattle.std.specs.Prelude.{ℕ}
use Rattle.terms.specs.Limits.{listing_bytes}

abbrev pub listing_room : ℕ
listing_room = listing_bytes
