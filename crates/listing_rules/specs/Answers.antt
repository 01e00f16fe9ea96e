-- What the calls over a book's tables ask and answer. The rules are not lent: an answer is right for whatever rules the tables hold.
--     KnownRule     some rules are tabled, r one of them
--     Like      whether rule q compiles and is like rule r
--     Earlier   the first earlier rule that is like rule r
--     Places    first bits and bits, the monitors beginning at bit `base`
--     Encodes   the numbers of the whole configuration
--     ToldRule      the last four fields of rule r's line
use Rattle.std.specs.Prelude.{Bool, true, List, ◌≡◌, ℕ, ◌^◌, ◌≤◌, ◌<◌, length, Option, Result}
use Rattle.terms.specs.Limits.{book_rules}
use Rattle.encoding.specs.declared.ConfigEncoding.{ConfigEncoding}
use Rattle.encoding.specs.Encoding.{state_bits_of, slot_bits}
use Rattle.listing_line.specs.declared.rule.Compiled.{Compiled}
use Rattle.listing_rules.specs.Rules.{Rule, compiles, like_of, first_below, compiling_of, encoding_for}
use Rattle.listing_rules.specs.Tabled.{Held, Tabled, Placed}

-- ---- likeness
module _ (ops nums firsts counts nodes nfirsts ncounts refusals : List ℕ) where
  -- some rules are tabled, and rule r is one that compiles
  pub record KnownRule (r : ℕ) : Type 0 where
    pub rules : ℕ → Rule
    pub many : ℕ
    pub tabled : Tabled ops nums firsts counts nodes nfirsts ncounts refusals rules many
    pub inside : r < many
    pub compiled : compiles (rules r) ≡ true

  pub record Like (q r : ℕ) (b : Bool) : Type 0 where
    pub is : (R : ℕ → Rule) (n : ℕ) → Tabled ops nums firsts counts nodes nfirsts ncounts refusals R n → r < n → compiles (R r) ≡ true → b ≡ like_of R r q

  pub record Earlier (r : ℕ) (a : Option ℕ) : Type 0 where
    pub is : (R : ℕ → Rule) (n : ℕ) → Tabled ops nums firsts counts nodes nfirsts ncounts refusals R n → r < n → compiles (R r) ≡ true → a ≡ first_below (like_of R r) r

-- ---- layout
module _ (kinds nodes nfirsts ncounts refusals : List ℕ) (n : ℕ) where
  pub record Placeable (base : ℕ) (starts bits : List ℕ) : Type 0 where
    pub ops : List ℕ
    pub nums : List ℕ
    pub firsts : List ℕ
    pub counts : List ℕ
    pub rules : ℕ → Rule
    pub held : Held ops nums kinds firsts counts rules n
    pub tabled : Tabled ops nums firsts counts nodes nfirsts ncounts refusals rules n
    pub low : base < 2 ^ 63
    pub in_starts : book_rules ≤ length starts
    pub in_bits : book_rules ≤ length bits

  pub record Places (base : ℕ) (starts bits : List ℕ) : Type 0 where
    pub is :
        (ops nums firsts counts : List ℕ) (R : ℕ → Rule) → Held ops nums kinds firsts counts R n
        → Tabled ops nums firsts counts nodes nfirsts ncounts refusals R n → Placed base R n starts bits

  -- from the bits of the state and of the slots
  pub record Encodable (state vars : ℕ) : Type 0 where
    pub ops : List ℕ
    pub nums : List ℕ
    pub firsts : List ℕ
    pub counts : List ℕ
    pub rules : ℕ → Rule
    pub held : Held ops nums kinds firsts counts rules n
    pub tabled : Tabled ops nums firsts counts nodes nfirsts ncounts refusals rules n
    pub state_small : state < 2 ^ 60
    pub slots_small : vars < 2 ^ 60

  pub record Encodes (state vars : ℕ) (e : ConfigEncoding) : Type 0 where
    pub is :
        (ops nums firsts counts : List ℕ) (R : ℕ → Rule) → Held ops nums kinds firsts counts R n
        → Tabled ops nums firsts counts nodes nfirsts ncounts refusals R n → (count : ℕ) (ws : List ℕ) → state ≡ state_bits_of count → vars ≡ slot_bits ws
        → e ≡ encoding_for count ws R n

-- ---- a rule's line
module _ (ops nums firsts counts nodes nfirsts ncounts refusals starts bits : List ℕ) where
  pub record Tellable (r : ℕ) : Type 0 where
    pub rules : ℕ → Rule
    pub many : ℕ
    pub tabled : Tabled ops nums firsts counts nodes nfirsts ncounts refusals rules many
    pub base : ℕ
    pub placed : Placed base rules many starts bits
    pub inside : r < many

  pub record ToldRule (r : ℕ) (c : Result Compiled ℕ) : Type 0 where
    pub is :
        (base : ℕ) (R : ℕ → Rule) (n : ℕ) → Tabled ops nums firsts counts nodes nfirsts ncounts refusals R n → Placed base R n starts bits → r < n
        → c ≡ compiling_of base R n r
