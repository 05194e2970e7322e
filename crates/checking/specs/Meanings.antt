-- What a book means. Assumes nothing.
use Rattle.std.specs.Prelude.{◌≤◌, List, length}
use Rattle.checking.specs.declared.rule.Rule.{Rule}
use Rattle.checking.specs.Sizes.{most_rules}

-- a list of at most 240 rules
pub record Meaning : Type 0 where
  pub rules : List Rule
  pub few : length rules ≤ most_rules
