-- One hour after the other: nothing that a fitting course has is lost, and each hour grants what it keeps. Assumes nothing.
use Rattle.std.proofs.Common.{◌≡◌, ℕ, ◌+◌, ◌-◌, ◌<◌, ◌≤◌, true, List, sym, ◌∙◌, subst, ⊎_elim, arith}
use Rattle.std.proofs.lemmas.Bool.{and_parts, and_from, cases_lt}
use Rattle.std.proofs.lemmas.List.{get_or_default}
use Rattle.points.specs.Points.{Points, Among, Same}
use Rattle.points.specs.Tables.{Every}
use Rattle.points.proofs.Tabled.{all_from}
use Rattle.house.specs.declared.tables.House.{House}
use Rattle.house.specs.declared.tables.Fact.{Fact}
use Rattle.house.specs.Cells.{components}
use Rattle.examining.specs.Examine.{Accepted}
use Rattle.examining.proofs.Laws.{accepted_laws}
use Rattle.fitting.specs.Course.{Course, Cell, OfHouse}
use Rattle.fitting.specs.Edges.{edge_at}
use Rattle.fitting.specs.Fits.{Fits}
use Rattle.fitting.specs.Step.{fact_grants, rule_grants, granted}
use Rattle.fitting.specs.Laws.{LoosestFitting}
use Rattle.fitting.proofs.Narrow.{Narrows}
use Rattle.fitting.proofs.Frame.{rules_same_before, carry_same}
use Rattle.fitting.proofs.Rest.{in_cell, cell_numbers, parts, from_parts, fits_granted}
use Rattle.fitting.proofs.Hours.{fact_keeps, rule_keeps, carry_keeps, granted_at_same, hours_fit}
use Rattle.writes.specs.Written.{Narrowed, at_hour, facts_grant}
use Rattle.writes.proofs.Narrowing.{narrowed_within, narrowed_grants, narrowed_keeps, narrowed_other}
use Rattle.engine.specs.Ready.{Ready}
use Rattle.engine.specs.Started.{Started}
use Rattle.engine.specs.Pressed.{rules_grant}
use Rattle.engine.specs.Constrained.{Resting, Constrained}
use Rattle.engine.specs.Hours.{SettledBefore}

-- an accepted house is ready
pub accepted_ready : {S : Type 0} (n : ℕ) (has : S → Points) (h : House S) (formulas : ℕ) → Accepted n has h formulas → Ready n has h formulas
accepted_ready n has h formulas accepted =
    let lawful = (accepted_laws n has).lawful h formulas accepted in
    record {
      countable = record {
        few_nodes = lawful.sizes.nodes_most;
        few_conditions = lawful.condition_count;
        all_edges = lawful.edge_count;
        graph = record {
          from_node = λ i lt. (lawful.edge_ends i lt (edge_at h.edges.now i) (get_or_default h.edges.now i _ _ lt)).0;
          no_repeat = λ i j lt in'. lawful.edges_differ i j lt in' (edge_at h.edges.now i) (edge_at h.edges.now j) (get_or_default h.edges.now i _ _ (omega arith)) (get_or_default h.edges.now j _ _ in');
        };
      };
      few_components = omega (arith, lawful.sizes.nodes_most, lawful.sizes.edges_most);
      delays = λ i lt r q. (lawful.rules i lt r q).delay_least;
      in_book = λ i lt r q. (lawful.rules i lt r q).formula;
    }

module _ {S : Type 0} (n : ℕ) (has : S → Points) (h : House S) (says : ℕ → ℕ → ℕ → Points) (filed : List (Fact S)) where
  pub settled_none : (a : Course) → SettledBefore n has h says filed 0 a
  settled_none a = record { grants = λ t c l lt. absurd (omega arith); contains = λ x fit of' t c l lt. absurd (omega arith) }

  -- all hours settled
  pub settled_all : (hour : ℕ) (a : Course) → h.sizes.last < hour → OfHouse h.sizes n a → SettledBefore n has h says filed hour a → LoosestFitting n has h says filed a
  settled_all hour a past of' all =
      record {
        fits = hours_fit n has h says filed a (λ t le c l cell. all.grants t c l (omega arith) cell);
        of_house = of';
        contains = λ x fit ofx t c l p e. let le = (cell_numbers h.sizes t c l (in_cell h.sizes n t c l p (ofx t c l p e)).0).0 in all.contains x fit ofx t c l (omega arith) p e;
      }

  -- one hour more: it begins as carrying grants, then facts, rules and constraints narrow it
  module _ (few : h.sizes.nodes ≤ 200) (falls : Narrows says) (delays : Every h.rules.now (λ r. 1 ≤ r.delay)) (hour : ℕ) (a a₁ a₂ a₃ b : Course)
      (starts : Started n has h filed hour a a₁) (facts : Narrowed a₁ (at_hour hour (facts_grant has filed)) a₂)
      (rules : Narrowed a₂ (at_hour hour (rules_grant n has h says a₂ h.rules.now)) a₃) (constrains : Constrained n has h hour a₃ b)
      (rests : (c : ℕ) → c < components h.sizes → Resting n has h hour c b) (before : SettledBefore n has h says filed hour a) where
    -- earlier hours are as they were
    from_rules : (t c l : ℕ) → t < hour → Same (a₂ t c l) (b t c l)
    from_rules t c l lt p = sym (constrains.elsewhere t c l (λ e. omega arith) p ∙ narrowed_other hour a₂ _ a₃ rules t c l (λ e. omega arith) p)

    to_rules : (t c l : ℕ) → t < hour → Same (a t c l) (a₂ t c l)
    to_rules t c l lt p = starts.earlier t c l lt p ∙ sym (narrowed_other hour a₁ _ a₂ facts t c l (λ e. omega arith) p)

    earlier : (t c l : ℕ) → t < hour → Same (a t c l) (b t c l)
    earlier t c l lt p = to_rules t c l lt p ∙ from_rules t c l lt p

    -- all is granted
    here_granted : (c l : ℕ) → Cell h.sizes hour c l → Among (b hour c l) (granted n has h says filed b hour c l)
    unfolding facts_grant rules_grant Resting
    here_granted c l cell p e =
        let e₃ = constrains.narrower hour c l p e in
        let e₂ = narrowed_within a₂ _ a₃ rules hour c l p e₃ in
        let e₁ = narrowed_within a₁ _ a₂ facts hour c l p e₂ in
        from_parts n has h says filed b hour c l p (record {
          by_facts = narrowed_grants hour a₁ (facts_grant has filed) a₂ facts c l p e₂;
          by_constraints = rests c (cell_numbers h.sizes hour c l cell).1 l p e;
          by_rules = sym (rules_same_before n has h a₂ b says hour c l p delays from_rules) ∙ narrowed_grants hour a₂ (rules_grant n has h says a₂ h.rules.now) a₃ rules c l p e₃;
          by_carrying = sym (carry_same n has h a b filed hour c l p (λ one. earlier (hour - 1) c l (omega arith))) ∙ (and_parts _ _ (sym (starts.begins c l p) ∙ e₁)).1;
        })

    -- nothing is lost
    here_contains : (x : Course) → Fits n has h says filed x → OfHouse h.sizes n x → (c l : ℕ) → Among (x hour c l) (b hour c l)
    unfolding facts_grant rules_grant Resting
    here_contains x fit of' =
        constrains.keeps x in_rules (λ c l p e. (parts n has h says filed x hour c l p (fits_granted n has h says filed x fit hour c l (cell c l p e) p e)).by_constraints)
      where
        cell : (c l p : ℕ) → x hour c l p ≡ true → Cell h.sizes hour c l
        cell c l p e = (in_cell h.sizes n hour c l p (of' hour c l p e)).0

        in_start : (c l : ℕ) → Among (x hour c l) (a₁ hour c l)
        in_start c l p e =
            starts.begins c l p ∙ and_from _ _ (of' hour c l p e)
            (carry_keeps n has h says filed x fit hour c l (cell c l p e) p e a (λ one. before.contains x fit of' (hour - 1) c l (omega arith)))

        in_facts : (c l : ℕ) → Among (x hour c l) (a₂ hour c l)
        in_facts c l p e =
            narrowed_keeps hour a₁ (facts_grant has filed) a₂ facts c l p (in_start c l p e)
            (all_from (fact_grants has hour c l p) filed (λ i lt f q. fact_keeps n has h says filed x fit hour c l (cell c l p e) p e i f lt q))

        in_rules : (c l : ℕ) → Among (x hour c l) (a₃ hour c l)
        in_rules c l p e =
            narrowed_keeps hour a₂ (rules_grant n has h says a₂ h.rules.now) a₃ rules c l p (in_facts c l p e)
            (all_from (rule_grants n has h says a₂ hour c l p) h.rules.now
            (λ i lt r q. rule_keeps n has h says filed x fit hour c l (cell c l p e) p e few falls a₂ (λ t u j lt' p' e'. sym (to_rules t u j lt' p') ∙ before.contains x fit of' t u j lt' p' e') i r lt q (delays i lt r q)))

    pub settled_more : SettledBefore n has h says filed (hour + 1) b
    settled_more =
        record {
          grants = λ t c l lt cell. ⊎_elim
              (λ less. granted_at_same n has h says filed a b t (λ t' u j le. earlier t' u j (omega arith)) (λ u j. before.grants t u j less) c l cell)
              (λ le. let e : hour ≡ t = omega arith in
              subst (λ (k : ℕ). Cell h.sizes k c l → Among (b k c l) (granted n has h says filed b k c l)) e (here_granted c l) cell)
              (cases_lt t hour);
          contains = λ x fit of' t c l lt. ⊎_elim
              (λ less p e. sym (earlier t c l less p) ∙ before.contains x fit of' t c l less p e)
              (λ le. let e : hour ≡ t = omega arith in subst (λ (k : ℕ). Among (x k c l) (b k c l)) e (here_contains x fit of' c l))
              (cases_lt t hour);
        }
