-- What a record gives to each table: its part of that table, or nothing.
use Rattle.std.specs.Prelude.{ℕ, ◌+◌, ◌*◌, Some, None, Option}
use Rattle.book.specs.declared.shares.Stair.{Stair}
use Rattle.house.specs.declared.tables.Condition.{Condition}
use Rattle.house.specs.declared.tables.Constraint.{Constraint}
use Rattle.house.specs.declared.tables.Edge.{Edge}
use Rattle.house.specs.declared.tables.Fact.{Fact}
use Rattle.house.specs.declared.tables.Rule.{Rule}
use Rattle.house.specs.declared.tables.Sizes.{Sizes}
use Rattle.house.specs.declared.tables.Test.{Test}
use Rattle.record_line.specs.declared.Record.{Record}
use Rattle.record_line.specs.declared.Record.TheVariants.{Sizes as S, Edge as E, Fixed as X, Test as T, Condition as C, Constraint as K, Rule as R, Step as Q, Fact as F}

module _ {B : Type 0} where
  abbrev pub edge_in : Record B → Option Edge
  edge_in r = elim r [ S _ _ _ _ _ ↦ None | E e ↦ Some e | X _ _ _ ↦ None | T _ ↦ None | C _ ↦ None | K _ ↦ None | R _ ↦ None | Q _ ↦ None | F _ ↦ None ]

  abbrev pub test_in : Record B → Option (Test B)
  test_in r = elim r [ S _ _ _ _ _ ↦ None | E _ ↦ None | X _ _ _ ↦ None | T t ↦ Some t | C _ ↦ None | K _ ↦ None | R _ ↦ None | Q _ ↦ None | F _ ↦ None ]

  abbrev pub condition_in : Record B → Option Condition
  condition_in r = elim r [ S _ _ _ _ _ ↦ None | E _ ↦ None | X _ _ _ ↦ None | T _ ↦ None | C c ↦ Some c | K _ ↦ None | R _ ↦ None | Q _ ↦ None | F _ ↦ None ]

  abbrev pub constraint_in : Record B → Option Constraint
  constraint_in r = elim r [ S _ _ _ _ _ ↦ None | E _ ↦ None | X _ _ _ ↦ None | T _ ↦ None | C _ ↦ None | K k ↦ Some k | R _ ↦ None | Q _ ↦ None | F _ ↦ None ]

  abbrev pub rule_in : Record B → Option Rule
  rule_in r = elim r [ S _ _ _ _ _ ↦ None | E _ ↦ None | X _ _ _ ↦ None | T _ ↦ None | C _ ↦ None | K _ ↦ None | R u ↦ Some u | Q _ ↦ None | F _ ↦ None ]

  abbrev pub step_in : Record B → Option (Stair B)
  step_in r = elim r [ S _ _ _ _ _ ↦ None | E _ ↦ None | X _ _ _ ↦ None | T _ ↦ None | C _ ↦ None | K _ ↦ None | R _ ↦ None | Q q ↦ Some q | F _ ↦ None ]

  abbrev pub fact_in : Record B → Option (Fact B)
  fact_in r = elim r [ S _ _ _ _ _ ↦ None | E _ ↦ None | X _ _ _ ↦ None | T _ ↦ None | C _ ↦ None | K _ ↦ None | R _ ↦ None | Q _ ↦ None | F f ↦ Some f ]

-- a bound on a place of the fixed bounds
pub record Mark (B : Type 0) : Type 0 where
  pub place : ℕ
  pub bound : B

-- the place of a component's fixed label
abbrev pub fixed_place : Sizes → ℕ → ℕ → ℕ
fixed_place s component label = component * s.fixed + label

abbrev pub mark_in : {B : Type 0} → Sizes → Record B → Option (Mark B)
mark_in s r = elim r [ S _ _ _ _ _ ↦ None | E _ ↦ None | X c l b ↦ Some (record { place = fixed_place s c l; bound = b }) | T _ ↦ None | C _ ↦ None | K _ ↦ None | R _ ↦ None | Q _ ↦ None | F _ ↦ None ]
