-- The tables from which a book's rules are listed.
use Rattle.std.specs.Prelude.{List, ◌≡◌, ℕ, ◌+◌, ◌*◌, ◌≤◌, ◌<◌, length, get_or, take, drop, Result}
use Rattle.terms.specs.Limits.{book_rules, label_bytes, labels_room}
use Rattle.reader.specs.BookTables.{BookTables}
use Rattle.text.specs.Tape.{Tape, Wrote}
use Rattle.listing_line.specs.declared.rule.Compiled.{Compiled}
use Rattle.listing_rules.specs.Rules.{Rule, compiling_of}
use Rattle.listing_rules.specs.Tabled.{Held, Tabled, Placed}
use Rattle.listing_head.specs.Head.{rule_text, rules_text}

-- what is lent: the rule list and the formula table, and the compiled rules with their first bits and bits
pub record Lent : Type 0 where
  pub book : BookTables
  pub nodes : List ℕ
  pub nfirsts : List ℕ
  pub ncounts : List ℕ
  pub refusals : List ℕ
  pub starts : List ℕ
  pub bits : List ℕ

abbrev pub lists : BookTables → List ℕ → List ℕ → List ℕ → List ℕ → List ℕ → List ℕ → Lent
lists book nodes nfirsts ncounts refusals starts bits = record {
  book = book;
  nodes = nodes;
  nfirsts = nfirsts;
  ncounts = ncounts;
  refusals = refusals;
  starts = starts;
  bits = bits;
}

-- each label stands in front of its own 32 bytes
pub record Labelled (labels lens : List ℕ) (R : ℕ → Rule) (n : ℕ) : Type 0 where
  pub in_labels : labels_room ≤ length labels
  pub in_lens : book_rules ≤ length lens
  pub inside : (r : ℕ) → r < n → label_bytes * r + get_or lens r 0 ≤ labels_room
  pub label : (r : ℕ) → r < n → take (get_or lens r 0) (drop (label_bytes * r) labels) ≡ (R r).label

-- the tables hold the first n rules of R
pub record HoldsRules (t : BookTables) (R : ℕ → Rule) (n : ℕ) : Type 0 where
  pub labelled : Labelled t.labels t.lens R n
  pub held : Held t.ops t.nums t.kinds t.firsts t.counts R n

-- they are compiled and placed too, the monitors beginning at bit `base`
pub record BookReady (base : ℕ) (l : Lent) (R : ℕ → Rule) (n : ℕ) : Type 0 where
  pub holds : HoldsRules l.book R n
  pub tabled :
      Tabled l.book.ops l.book.nums l.book.firsts l.book.counts l.nodes l.nfirsts l.ncounts l.refusals R n
  pub placed : Placed base R n l.starts l.bits

pub record Readied (l : Lent) (n : ℕ) : Type 0 where
  pub base : ℕ
  pub rules : ℕ → Rule
  pub is : BookReady base l rules n

-- rule r, with what compiling gave
pub record RuleReady (l : Lent) (n r : ℕ) (c : Result Compiled ℕ) : Type 0 where
  pub readied : Readied l n
  pub low : r < n
  pub gave : c ≡ compiling_of readied.base readied.rules n r

pub record RuleListed (l : Lent) (n r : ℕ) (c : Result Compiled ℕ) (before after : Tape) : Type 0 where
  pub is : (base : ℕ) (R : ℕ → Rule) → BookReady base l R n → c ≡ compiling_of base R n r → Wrote before (rule_text base R n r) after

-- all rules
pub record RulesListed (l : Lent) (n : ℕ) (before after : Tape) : Type 0 where
  pub is : (base : ℕ) (R : ℕ → Rule) → BookReady base l R n → Wrote before (rules_text base R n) after
