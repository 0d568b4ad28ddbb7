-- Where no pair of nodes is repeated, the nodes that a rule counts are as many as the edges that make them count. Assumes nothing.
use Rattle.std.proofs.Common.{◌≡◌, ℕ, zero, suc, ◌+◌, ◌-◌, ◌<◌, ◌≤◌, Bool, true, false, cond, ◌&&◌, ◌||◌, eqb, ◌≢◌, List, length, sym, refl, ap, ◌∙◌, ⊎_elim, arith}
use Rattle.std.proofs.lemmas.Bool.{and_parts, and_right, eqb-true, eq-eqb, ne_eqb, cases_Bool}
use Rattle.points.specs.Points.{Points, some_below, count_below}
use Rattle.points.specs.Tables.{at_place}
use Rattle.points.proofs.Tabled.{at-get_or}
use Rattle.points.proofs.Counted.{some_use, count_none, count_ext, count_one}
use Rattle.house.specs.declared.tables.House.{House}
use Rattle.house.specs.declared.tables.Edge.{Edge}
use Rattle.house.specs.declared.tables.Rule.{Rule}
use Rattle.fitting.specs.Course.{Course}
use Rattle.fitting.specs.Tests.{body_met_lem}
use Rattle.fitting.specs.Conditions.{holds}
use Rattle.fitting.specs.Neighbours.{leads, eligible, qualifies, eligibles, qualified}
use Rattle.fitting.specs.Edges.{edge_at, Graph, edges_count, CountLaws}

module _ (nodes : ℕ) (es : List Edge) (graph : Graph nodes es) (Q A : ℕ → Bool) (v : ℕ) where
  -- an edge to v that passes A, from a node that passes Q
  abbrev counted : ℕ → Bool
  counted e = at_place false (λ edge. eqb edge.to v && Q edge.from) es e && A e

  abbrev joins : ℕ → ℕ → Bool
  joins u e = at_place false (λ edge. eqb edge.from u && eqb edge.to v) es e && A e

  joins_is : (u e : ℕ) → e < length es → joins u e ≡ (eqb (edge_at es e).from u && eqb (edge_at es e).to v && A e)
  joins_is u e l = ap (λ (b : Bool). b && A e) (at-get_or false (λ edge. eqb edge.from u && eqb edge.to v) es e (record { from = 0; to = 0 }) l)

  counted_is : (e : ℕ) → e < length es → counted e ≡ (eqb (edge_at es e).to v && Q (edge_at es e).from && A e)
  counted_is e l = ap (λ (b : Bool). b && A e) (at-get_or false (λ edge. eqb edge.to v && Q edge.from) es e (record { from = 0; to = 0 }) l)

  nodes_as_edges : (m : ℕ) → m ≤ length es → count_below nodes (λ u. Q u && some_below m (joins u)) ≡ count_below m counted
  unfolding some_below count_below
  nodes_as_edges zero l = count_none nodes _ (λ u. and_right (Q u) false refl)
  nodes_as_edges (suc m) l =
      count_one nodes (λ u. Q u && (some_below m (joins u) || joins u m)) (λ u. Q u && some_below m (joins u)) (edge_at es m).from (counted m)
      (graph.from_node m (omega arith)) other here apart
      ∙ ap (λ (k : ℕ). k + cond (counted m) 1 0) (nodes_as_edges m (omega arith))
    where
      drop_false : (q s j : Bool) → j ≡ false → (q && (s || j)) ≡ (q && s)
      drop_false true true j e = refl
      drop_false true false j e = e
      drop_false false s j e = refl

      off : (x y z : Bool) → x ≡ false → (x && y && z) ≡ false
      off x y z e = rw e

      other : (u : ℕ) → u ≢ (edge_at es m).from → (Q u && (some_below m (joins u) || joins u m)) ≡ (Q u && some_below m (joins u))
      other u ne =
          drop_false (Q u) (some_below m (joins u)) (joins u m)
          (joins_is u m (omega arith) ∙ off _ _ _ (ne_eqb (edge_at es m).from u (λ e. ne (sym e))))

      mix : (q s y z x j k : Bool) → j ≡ (x && y && z) → x ≡ true → k ≡ (y && q && z) → (q && (s || j)) ≡ ((q && s) || k)
      mix true s true z x j k je xe ke = rw (je, xe, ke)
      mix true s false z x j k je xe ke = rw (je, xe, ke)
      mix false s true z x j k je xe ke = rw ke
      mix false s false z x j k je xe ke = rw ke

      here : (Q (edge_at es m).from && (some_below m (joins (edge_at es m).from) || joins (edge_at es m).from m)) ≡ ((Q (edge_at es m).from && some_below m (joins (edge_at es m).from)) || counted m)
      here =
          mix (Q (edge_at es m).from) (some_below m (joins (edge_at es m).from)) (eqb (edge_at es m).to v) (A m) (eqb (edge_at es m).from (edge_at es m).from) (joins (edge_at es m).from m) (counted m)
          (joins_is (edge_at es m).from m (omega arith)) (eq-eqb (edge_at es m).from (edge_at es m).from refl) (counted_is m (omega arith))

      apart : counted m ≡ true → (Q (edge_at es m).from && some_below m (joins (edge_at es m).from)) ≡ false
      apart yes' =
          let to_v : (edge_at es m).to ≡ v = eqb-true _ v (and_parts _ (Q (edge_at es m).from) (and_parts _ (A m) (sym (counted_is m (omega arith)) ∙ yes')).0).0 in
          and_right (Q (edge_at es m).from) (some_below m (joins (edge_at es m).from))
          (⊎_elim
          (λ s. let w = some_use m (joins (edge_at es m).from) s in
          let both : (eqb (edge_at es w.0).from (edge_at es m).from && eqb (edge_at es w.0).to v && A w.0) ≡ true = sym (joins_is (edge_at es m).from w.0 (omega (arith, w.1))) ∙ w.2 in
          let pair = and_parts (eqb (edge_at es w.0).from (edge_at es m).from) (eqb (edge_at es w.0).to v) (and_parts _ (A w.0) both).0 in
          absurd (graph.no_repeat w.0 m w.1 (omega arith) (eqb-true _ _ pair.0) (eqb-true _ v pair.1 ∙ sym to_v)))
          (λ e. e)
          (cases_Bool (some_below m (joins (edge_at es m).from))))

module _ {S : Type 0} (n : ℕ) (has : S → Points) (h : House S) (graph : Graph h.sizes.nodes h.edges.now) where
  -- y, counted over the edges
  pub eligibles_by_edges : (r : Rule) (v : ℕ) →
      eligibles n has h r v ≡ edges_count h.edges.now (λ e. holds n has h r.along (h.sizes.nodes + e)) (holds n has h r.source) v
  unfolding eligibles eligible leads edges_count
  eligibles_by_edges r v =
      nodes_as_edges h.sizes.nodes h.edges.now graph (holds n has h r.source) (λ e. holds n has h r.along (h.sizes.nodes + e)) v (length h.edges.now) (omega arith)

  -- x, counted over the edges
  pub qualified_by_edges : (a : Course) (r : Rule) (t v : ℕ) →
      qualified n has h a r t v
      ≡ edges_count h.edges.now (λ e. holds n has h r.along (h.sizes.nodes + e)) (λ u. holds n has h r.source u && body_met_lem n has h a (t - r.delay) u r.body) v
  unfolding qualified qualifies eligible leads edges_count
  qualified_by_edges a r t v =
      count_ext h.sizes.nodes _ _ (λ u _. swap (holds n has h r.source u) _ (body_met_lem n has h a (t - r.delay) u r.body))
      ∙ nodes_as_edges h.sizes.nodes h.edges.now graph (λ u. holds n has h r.source u && body_met_lem n has h a (t - r.delay) u r.body) (λ e. holds n has h r.along (h.sizes.nodes + e)) v
      (length h.edges.now) (omega arith)
    where
      swap : (x y z : Bool) → (x && y && z) ≡ (x && z && y)
      swap true true true = refl
      swap true true false = refl
      swap true false true = refl
      swap true false false = refl
      swap false y z = refl

  pub count_laws : CountLaws n has h
  count_laws = record { by_edges = eligibles_by_edges; met_by_edges = qualified_by_edges }
