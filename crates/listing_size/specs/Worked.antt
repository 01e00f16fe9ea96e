-- Worked listings: books and their listings as document 01 gives them or has them follow from its text, line by line. `\t` is a tab.
--     whole      the whole case
--     others     layout, likeness and order of reports; a joined node; a rule that does not compile; liveness; refused books; the empty book
use Rattle.std.specs.Prelude.{◌≡◌, List, [], ◌∷◌, ◌++◌, ℕ}
use Prim.Native.Char.{code}
use Prim.Native.String.{String, [] as no_text, ◌∷◌ as before}
use Rattle.listing_text.specs.Listing.{listing}

abbrev pub bytes : String → List ℕ
bytes no_text = []
bytes (before c s) = code c ∷ bytes s

-- lines, each with its LF
abbrev pub text : List String → List ℕ
text [] = []
text (l ∷ ls) = bytes l ++ 10 ∷ text ls

pub record Worked : Type 0 where
  pub book : List String
  pub lists : List String

abbrev pub Lists : Worked → Type 0
Lists w = listing (text w.book) ≡ text w.lists

abbrev pub AllList : List Worked → Type 0
AllList [] = Unit {0}
AllList (w ∷ ws) = Lists w × AllList ws

abbrev pub whole : Worked
whole = record {
  book =
      "rule\ttrip\tP" ∷
      "always" ∷
      "implies" ∷
      "var\t0" ∷
      "within\t3" ∷
      "var\t1" ∷
      "step\t0\t0000000000000001" ∷
      "step\t1\t0000000000000000" ∷
      "step\t2\t0000000000000000" ∷
      [];
  lists =
      "rule\t0\ttrip\tP\t0\t0\t3\t-" ∷
      "node\t0\tB\t3\t0\t*\tv0\tv1" ∷
      "live\tnone\t-" ∷
      "plan\t0\t0\t3\t3\t1" ∷
      "report\t2\t0\t0" ∷
      "end\t1" ∷
      [];
}

-- an assumption's bits follow the properties'; the third rule is like the second; reports go by step line and then by rule
abbrev pub three_rules : Worked
three_rules = record {
  book =
      "rule\tbegin\tA" ∷
      "within\t2" ∷
      "var\t0" ∷
      "rule\tanswer\tP" ∷
      "always" ∷
      "implies" ∷
      "var\t0" ∷
      "next" ∷
      "in\t1" ∷
      "rule\tagain\tP" ∷
      "always" ∷
      "implies" ∷
      "in\t0" ∷
      "next" ∷
      "out\t1" ∷
      "step\t0\t0000000000000001" ∷
      "step\t1\t0000000000000000" ∷
      "step\t2\t0000000000000000" ∷
      [];
  lists =
      "rule\t0\tbegin\tA\t0\t2\t3\t-" ∷
      "node\t0\tB\t2\t0\t0\tT\tv0" ∷
      "live\tnone\t-" ∷
      "rule\t1\tanswer\tP\t0\t0\t1\t-" ∷
      "node\t0\tD\t-\t1\t*\tv0\ti1" ∷
      "live\tnone\t-" ∷
      "rule\t2\tagain\tP\t0\t1\t1\t1" ∷
      "node\t0\tD\t-\t1\t*\ti0\to1" ∷
      "live\tnone\t-" ∷
      "plan\t0\t0\t5\t5\t1" ∷
      "report\t1\t1\t-1" ∷
      "report\t1\t2\t-1" ∷
      "end\t2" ∷
      [];
}

-- a joined node, and a signal in which implies is `|!`
abbrev pub joined_node : Worked
joined_node = record {
  book =
      "rule\tpair\tP" ∷
      "or" ∷
      "implies" ∷
      "var\t10" ∷
      "not" ∷
      "in\t63" ∷
      "always-for\t4" ∷
      "out\t2" ∷
      [];
  lists =
      "rule\t0\tpair\tP\t0\t0\t0\t-" ∷
      "node\t0\tO\t-\t-\t-\t-\t-" ∷
      "node\t1\tC\t-\t0\t*\t|!v10!i63\t-" ∷
      "node\t2\tC\t-\t0\t3\to2\t-" ∷
      "live\tnone\t-" ∷
      "plan\t0\t0\t0\t0\t0" ∷
      "end\t0" ∷
      [];
}

-- a rule that does not compile has no bits, no likeness and no `node` lines; the skeleton of a property with liveness, and what it owes
abbrev pub liveness : Worked
liveness = record {
  book =
      "rule\thome\tP" ∷
      "or" ∷
      "eventually" ∷
      "var\t0" ∷
      "implies" ∷
      "var\t1" ∷
      "until" ∷
      "in\t2" ∷
      "implies" ∷
      "out\t3" ∷
      "var\t4" ∷
      "rule\tmixed\tP" ∷
      "and" ∷
      "eventually" ∷
      "var\t0" ∷
      "always" ∷
      "var\t1" ∷
      [];
  lists =
      "rule\t0\thome\tP\t19\t-\t-\t-" ∷
      "live\t0\t|#0>sv1#1" ∷
      "owe\t0\tE\tv0" ∷
      "owe\t1\tU\ti2\t>o3v4" ∷
      "rule\t1\tmixed\tP\t19\t-\t-\t-" ∷
      "live\t23\t-" ∷
      "plan\t0\t0\t0\t0\t0" ∷
      "end\t0" ∷
      [];
}

-- a book that ends inside a rule; a line with a field too few
abbrev pub unfinished : Worked
unfinished = record { book = "rule\ttrip\tP" ∷ "always" ∷ []; lists = "refused\t10\t2" ∷ [] }

abbrev pub field_missing : Worked
field_missing = record { book = "step\t0\t0000000000000001" ∷ "step\t1" ∷ []; lists = "refused\t5\t2" ∷ [] }

abbrev pub no_lines : Worked
no_lines = record { book = []; lists = "plan\t0\t0\t0\t0\t0" ∷ "end\t0" ∷ [] }

-- document 02, order 1: five states take 3 bits, the slots 10 more, and the rule's 3 follow from bit 13
abbrev pub opened : Worked
opened = record {
  book =
      "states\t5" ∷
      "slot\tdepth\t10" ∷
      "slot\twet\t0" ∷
      "rule\ttrip\tP" ∷
      "always" ∷
      "implies" ∷
      "var\t0" ∷
      "within\t3" ∷
      "var\t1" ∷
      [];
  lists =
      "rule\t0\ttrip\tP\t0\t13\t3\t-" ∷
      "node\t0\tB\t3\t0\t*\tv0\tv1" ∷
      "live\tnone\t-" ∷
      "plan\t3\t10\t3\t16\t2" ∷
      "end\t0" ∷
      [];
}

-- 25 before 7: a `states` line that is not the first
abbrev pub late_states : Worked
late_states = record { book = "slot\ta\t1" ∷ "states\tx" ∷ []; lists = "refused\t25\t2" ∷ [] }

abbrev pub others : List Worked
others = opened ∷ late_states ∷ three_rules ∷ joined_node ∷ liveness ∷ unfinished ∷ field_missing ∷ no_lines ∷ []
