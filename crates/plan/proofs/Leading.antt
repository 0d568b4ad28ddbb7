-- Joint steps lead where settle says. Assumes nothing.
use Rattle.std.proofs.Common.{ℕ, ◌≤◌, List, take, ⊎_elim}
use Rattle.std.proofs.lemmas.Bool.{cases_Bool}
use Rattle.points.specs.Points.{Points}
use Rattle.house.specs.declared.tables.House.{House}
use Rattle.house.specs.declared.tables.Fact.{Fact}
use Rattle.examining.specs.Examine.{AllClear}
use Rattle.examining.proofs.Laws.{sizes_lawful}
use Rattle.fitting.specs.Course.{course_of}
use Rattle.fitting.specs.Laws.{Laws}
use Rattle.fitting.specs.Step.{steps}
use Rattle.plan.specs.declared.outcomes.Outcome.TheVariants.{Settled as Came, Contradiction as Failed, Refused as Denied}
use Rattle.plan.specs.Orders.{settle_checks}
use Rattle.plan.specs.Courses.{Settles, Contradicts}
use Rattle.plan.specs.Steps.{Reached, Emptied, StepsLead}

module _ {S : Type 0} (n : ℕ) (has : S → Points) (h : House S) (says : ℕ → ℕ → ℕ → Points) (filed : List (Fact S)) (l : Laws n has h says filed) where
  settled_reached : (cells : List S) → Settles n has h says filed cells → Reached n has h says filed cells
  settled_reached cells m = record {
    rests = (l.rests (course_of h.sizes has cells) m.loosest.of_house).0 m.loosest.fits;
    count = l.arrives.0;
    leads = l.one (steps n has h says filed l.arrives.0) (course_of h.sizes has cells) l.arrives.1 m.loosest;
  }

  clash_emptied : (t c k : ℕ) → Contradicts n has h says filed t c k → Emptied n has h says filed t c k
  clash_emptied t c k m = record {
    count = l.arrives.0;
    void = λ p. ⊎_elim (λ e. absurd (m.doomed (steps n has h says filed l.arrives.0) l.arrives.1.fits l.arrives.1.of_house p e)) (λ e. e)
        (cases_Bool (steps n has h says filed l.arrives.0 t c k p));
  }

-- the sizes that settle accepted are within their limits
few_nodes : {S : Type 0} (n : ℕ) (has : S → Points) (h : House S) (formulas count : ℕ) (table : List (Fact S)) (long : ℕ) →
    AllClear (settle_checks n has h formulas count table long) → h.sizes.nodes ≤ 200
few_nodes n has h formulas count table long all = (sizes_lawful h.sizes all.0).nodes_most

module _ {S : Type 0} (n : ℕ) (has : S → Points) (h : House S) (formulas : ℕ) (says : ℕ → ℕ → ℕ → Points)
    (laws : (filed : List (Fact S)) → h.sizes.nodes ≤ 200 → Laws n has h says filed) where
  pub steps_lead : StepsLead n has h formulas says
  steps_lead draft table cells cells' (Came settled) w =
      settled_reached n has h says (take draft.count table) (laws _ (few_nodes n has h formulas _ _ _ w.0)) cells' w.2
  steps_lead draft table cells cells' (Failed at draft') w =
      clash_emptied n has h says (take draft.count table) (laws _ (few_nodes n has h formulas _ _ _ w.0)) at.cell.hour at.cell.component at.cell.label w.2
  steps_lead draft table cells cells' (Denied r draft') w = tt
