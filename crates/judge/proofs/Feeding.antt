-- Neighbours counted by edges, and that these are the nodes counted. Assumes nothing.
use Rattle.std.proofs.Common.{◌≡◌, ℕ, zero, suc, ◌+◌, ◌-◌, ◌<◌, ◌≤◌, min, Bool, true, false, ◌&&◌, eqb, List, [], ◌∷◌, length, get_or, Some, None, Option, sym, refl, ap, ◌∙◌, ⊎_elim, add-one, arith}
use Rattle.std.proofs.lemmas.List.{get_or_past}
use Rattle.std.proofs.lemmas.Bool.{cases_lt}
use Rattle.points.specs.Points.{Points, count_below}
use Rattle.points.specs.Tables.{at_place}
use Rattle.points.proofs.Counted.{count_ext}
use Rattle.points.proofs.Tabled.{at-get_or}
use Rattle.house.specs.declared.tables.House.{House}
use Rattle.house.specs.declared.tables.Edge.{Edge}
use Rattle.house.specs.declared.tables.Rule.{Rule}
use Rattle.house.specs.declared.tables.Body.{Body}
use Rattle.house.specs.Cells.{components}
use Rattle.fitting.specs.Course.{Course}
use Rattle.fitting.specs.Tests.{body_met_lem}
use Rattle.fitting.specs.Conditions.{holds}
use Rattle.fitting.specs.Edges.{edge_at, edges_count}
use Rattle.fitting.specs.Neighbours.{eligibles, qualified}
use Rattle.fitting.proofs.ByEdges.{eligibles_by_edges, qualified_by_edges}
use Rattle.fitting.proofs.Narrow.{eligibles_le, qualified_le}
use Rattle.judge.specs.declared.verdicts.Verdicts.{Verdicts}
use Rattle.judge.specs.declared.counts.Count.{Count}
use Rattle.judge.specs.Judged.{held_by, held_on_lem, feeds, Judges, AllJudged, Countable}
use Rattle.judge.proofs.Verdict.{said_later}

-- the body is met on the node that edge e leaves
unfoldable pub meets_body : {S : Type 0} → ℕ → (S → Points) → House S → Course → ℕ → Body → ℕ → Bool
meets_body n has h a t body e = at_place false (λ edge. body_met_lem n has h a t edge.from body) h.edges.now e

count_yes : (f : ℕ → Bool) (e k m : ℕ) → k ≡ min (count_below e f) 65535 → f e ≡ true → m ≡ min (k + 1) 65535 → m ≡ min (count_below (e + 1) f) 65535
unfolding count_below
count_yes f e k m is t s = rw (add-one e, t) (omega arith)

count_no : (f : ℕ → Bool) (e k : ℕ) → k ≡ min (count_below e f) 65535 → f e ≡ false → k ≡ min (count_below (e + 1) f) 65535
unfolding count_below
count_no f e k is t = rw (add-one e, t) (omega arith)

module _ {S : Type 0} (n : ℕ) (has : S → Points) (h : House S) (a : Course) (vs : List Verdicts) (r : Rule) (t v : ℕ) where
  abbrev pub both : ℕ → Bool
  both e = feeds h vs r v e && meets_body n has h a (t - r.delay) r.body e

  -- of the edges below e, so many feed the node, and on the nodes of so many of these the body is met; both counts stop
  -- at 65,535
  unfoldable pub Tallied : ℕ → Count → Type 0
  Tallied e count = (count.eligible ≡ min (count_below e (feeds h vs r v)) 65535) × (count.qualifying ≡ min (count_below e both) 65535)

  pub tallied_none : Tallied 0 (record { eligible = 0; qualifying = 0 })
  unfolding Tallied count_below
  tallied_none = (refl, refl)

  -- one edge more: whether it feeds the node, and whether the body is met on its node
  module _ (e : ℕ) (count : Count) (d : Edge) (f : Bool) (lt : e < length h.edges.now) (so_far : Tallied e count)
      (says : f ≡ ((eqb (get_or h.edges.now e d).to v && held_on_lem vs r.source (get_or h.edges.now e d).from) && held_on_lem vs r.along (h.sizes.nodes + e))) where
    edge_fed : feeds h vs r v e ≡ f
    unfolding feeds
    edge_fed = ap (λ x. x && held_on_lem vs r.along (h.sizes.nodes + e)) (at-get_or false (λ edge. eqb edge.to v && held_on_lem vs r.source edge.from) h.edges.now e d lt) ∙ sym says

    body : meets_body n has h a (t - r.delay) r.body e ≡ body_met_lem n has h a (t - r.delay) (get_or h.edges.now e d).from r.body
    unfolding meets_body
    body = at-get_or false (λ edge. body_met_lem n has h a (t - r.delay) edge.from r.body) h.edges.now e d lt

    pub tallied_skip : f ≡ false → Tallied (e + 1) count
    unfolding Tallied
    tallied_skip no' = (count_no (feeds h vs r v) e _ so_far.0 (edge_fed ∙ no'), count_no both e _ so_far.1 (rw (edge_fed, no')))

    module _ (yes' : f ≡ true) (b : Bool) (met : b ≡ body_met_lem n has h a (t - r.delay) (get_or h.edges.now e d).from r.body) (y : ℕ) (up : y ≡ min (count.eligible + 1) 65535) where
      pub tallied_unmet : b ≡ false → Tallied (e + 1) (record { eligible = y; qualifying = count.qualifying })
      unfolding Tallied
      tallied_unmet no' = (count_yes (feeds h vs r v) e _ y so_far.0 (edge_fed ∙ yes') up, count_no both e _ so_far.1 (rw (edge_fed, yes') (body ∙ (sym met ∙ no'))))

      pub tallied_met : b ≡ true → (x : ℕ) → x ≡ min (count.qualifying + 1) 65535 → Tallied (e + 1) (record { eligible = y; qualifying = x })
      unfolding Tallied
      tallied_met on x upx = (count_yes (feeds h vs r v) e _ y so_far.0 (edge_fed ∙ yes') up, count_yes both e _ x so_far.1 (rw (edge_fed, yes') (body ∙ (sym met ∙ on))) upx)

read_again : {A : Type 0} (ys : List A) (i : ℕ) (y : A) → i < length ys → get_or ys i y ≡ get_or ys i (get_or ys i y)
read_again [] i y l = refl
read_again (z ∷ zs) zero y l = refl
read_again (z ∷ zs) (suc i) y l = read_again zs i y (omega arith)

regroup : (p q o m : Bool) → (((p && q) && o) && m) ≡ ((p && (q && m)) && o)
regroup true true true true = refl
regroup true true true false = refl
regroup true true false true = refl
regroup true true false false = refl
regroup true false o m = refl
regroup false q o m = refl

module _ {S : Type 0} (n : ℕ) (has : S → Points) (h : House S) (ready : Countable n has h) (vs : List Verdicts) (all : AllJudged n has h vs) where
  -- what the verdicts say is what holds
  pub held_holds : (k : Option ℕ) (c : ℕ) → c < components h.sizes → held_on_lem vs k c ≡ holds n has h k c
  unfolding held_on_lem held_by holds
  held_holds k c l = at-get_or false (held_by k) vs c none here ∙ by k
    where
      none : Verdicts
      none = record { said = [] }

      here : c < length vs
      here = omega (arith, all.enough)

      judged : Judges n has h c (get_or vs c none)
      judged = all.judges c l (get_or vs c none) (read_again vs c none here)

      by : (k' : Option ℕ) → held_by k' (get_or vs c none) ≡ holds n has h k' c
      by None = refl
      by (Some i) =
          ⊎_elim (judged.each i)
          (λ many. get_or_past _ i false (rw judged.sixty_four many) ∙ sym (said_later n has h c _ i (omega (arith, ready.few_conditions))))
          (cases_lt i 64)

  from_node : (e : ℕ) → e < length h.edges.now → (edge_at h.edges.now e).from < components h.sizes
  from_node e l = omega (arith, ready.graph.from_node e l)

  at_edge : (f : Edge → Bool) (e : ℕ) → e < length h.edges.now → at_place false f h.edges.now e ≡ f (edge_at h.edges.now e)
  at_edge f e l = at-get_or false f h.edges.now e (record { from = 0; to = 0 }) l

  module _ (a : Course) (r : Rule) (t v : ℕ) where
    fed : (e : ℕ) → e < length h.edges.now →
        feeds h vs r v e ≡ ((eqb (edge_at h.edges.now e).to v && holds n has h r.source (edge_at h.edges.now e).from) && holds n has h r.along (h.sizes.nodes + e))
    unfolding feeds
    fed e l =
        let along : held_on_lem vs r.along (h.sizes.nodes + e) ≡ holds n has h r.along (h.sizes.nodes + e) = held_holds r.along _ (omega (arith, ready.all_edges)) in
        let source : held_on_lem vs r.source (edge_at h.edges.now e).from ≡ holds n has h r.source (edge_at h.edges.now e).from = held_holds r.source _ (from_node e l) in
        ap (λ x. x && held_on_lem vs r.along (h.sizes.nodes + e)) (at_edge _ e l) ∙ rw (along, source)

    counted_edges : (source : ℕ → Bool) → edges_count h.edges.now (λ e. holds n has h r.along (h.sizes.nodes + e)) source v
        ≡ count_below (length h.edges.now) (λ e. (eqb (edge_at h.edges.now e).to v && source (edge_at h.edges.now e).from) && holds n has h r.along (h.sizes.nodes + e))
    unfolding edges_count
    counted_edges source =
        count_ext _ _ _ (λ e l. ap (λ x. x && holds n has h r.along (h.sizes.nodes + e)) (at_edge (λ edge. eqb edge.to v && source edge.from) e l))

    eligible_is : count_below (length h.edges.now) (feeds h vs r v) ≡ eligibles n has h r v
    eligible_is = count_ext _ _ _ fed ∙ sym (eligibles_by_edges n has h ready.graph r v ∙ counted_edges (holds n has h r.source))

    qualified_is : count_below (length h.edges.now) (both n has h a vs r t v) ≡ qualified n has h a r t v
    unfolding meets_body
    qualified_is =
        count_ext _ _ _
        (λ e l. ap (λ x. x && at_place false (λ edge. body_met_lem n has h a (t - r.delay) edge.from r.body) h.edges.now e) (fed e l)
        ∙ (ap (λ x. ((eqb (edge_at h.edges.now e).to v && holds n has h r.source (edge_at h.edges.now e).from) && holds n has h r.along (h.sizes.nodes + e)) && x)
        (at_edge (λ edge. body_met_lem n has h a (t - r.delay) edge.from r.body) e l)
        ∙ regroup (eqb (edge_at h.edges.now e).to v) (holds n has h r.source (edge_at h.edges.now e).from) (holds n has h r.along (h.sizes.nodes + e)) (body_met_lem n has h a (t - r.delay) (edge_at h.edges.now e).from r.body)))
        ∙ sym (qualified_by_edges n has h ready.graph a r t v ∙ counted_edges (λ u. holds n has h r.source u && body_met_lem n has h a (t - r.delay) u r.body))

    -- so the tally of all edges counts the nodes
    pub tallied_all : (e : ℕ) (count : Count) → length h.edges.now ≤ e → e ≤ length h.edges.now → Tallied n has h a vs r t v e count → (count.eligible ≡ eligibles n has h r v) × (count.qualifying ≡ qualified n has h a r t v)
    unfolding Tallied
    tallied_all e count past in' w =
        let end : e ≡ length h.edges.now = omega arith in
        let ys : count.eligible ≡ min (count_below (length h.edges.now) (feeds h vs r v)) 65535 = rw end at w.0 in
        let xs : count.qualifying ≡ min (count_below (length h.edges.now) (both n has h a vs r t v)) 65535 = rw end at w.1 in
        (omega (arith, ys, eligible_is, eligibles_le n has h r v, ready.few_nodes), omega (arith, xs, qualified_is, qualified_le n has h a r t v, eligibles_le n has h r v, ready.few_nodes))
