-- The kinds of a skeleton's entries and of obligations, one name each; terms/src/entry.rt has the code's. Words keep their numbers (Ops.antt).
use Rattle.std.specs.Prelude.{ℕ}

abbrev pub safety_entry : ℕ
safety_entry = 0

abbrev pub owed_entry : ℕ
owed_entry = 1

abbrev pub eventually_kind : ℕ
eventually_kind = 0

abbrev pub until_kind : ℕ
until_kind = 1
