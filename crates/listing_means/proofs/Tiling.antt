-- IN EVERY LISTING THE BITS TILE: no two parts of a book overlap, none is invented, and nothing lies between them.
use mathlib.Core.Path.{refl}
use Rattle.encoding.proofs.Spans.{encoding_tiles}
use Rattle.book.specs.Book.{Book, count_in}
use Rattle.listing_rules.specs.Rules.{first_bit_of, encoding_for}
use Rattle.listing_means.specs.Tiled.{rules, properties, compiled, bits_at, Tiled}

pub book_tiled : (b : Book) → Tiled b
unfolding first_bit_of encoding_for
book_tiled b = record {
  tiles = encoding_tiles (count_in b.states) b.widths (rules b) (properties b) (compiled b) (bits_at b);
  first = λ r. refl;
  whole = refl;
}
