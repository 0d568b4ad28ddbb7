-- What is proved of fitting and of the joint step.
use Rattle.std.specs.Prelude.{◌≡◌, ℕ, suc, ◌+◌, ◌<◌, ◌≤◌, true, false, List, length, ◌≢◌, slice_index_or}
use Rattle.points.specs.Points.{Points, Iff, Among, Same}
use Rattle.points.specs.Tables.{Every}
use Rattle.house.specs.declared.tables.House.{House}
use Rattle.house.specs.declared.tables.Fact.{Fact}
use Rattle.house.specs.declared.tables.Body.{Body}
use Rattle.house.specs.declared.tables.Condition.{Condition}
use Rattle.house.specs.declared.tables.Rule.{Rule}
use Rattle.house.specs.Cells.{covers}
use Rattle.house.specs.Kinds.{names_first, names_second}
use Rattle.fitting.specs.Course.{Course, Within, WithinUpto, SameCourse, SameUpto, OfHouse, VoidFree, course_of}
use Rattle.fitting.specs.Tests.{test_met_lem, body_met_lem}
use Rattle.fitting.specs.Conditions.{verdict, said, holds}
use Rattle.fitting.specs.Neighbours.{eligible, eligibles, qualified}
use Rattle.fitting.specs.Edges.{edge_at}
use Rattle.fitting.specs.Touched.{touched}
use Rattle.fitting.specs.Fits.{Fits}
use Rattle.fitting.specs.Step.{rule_grants, granted, JointStep, step, steps}

-- why node u is eligible for node v under a rule: an edge from u to v that meets the edge condition, where u meets its own
pub record Feeds {S : Type 0} (n : ℕ) (has : S → Points) (h : House S) (r : Rule) (u v : ℕ) : Type 0 where
  pub source_holds : holds n has h r.source u ≡ true
  pub edge : ℕ
  pub is_edge : edge < length h.edges.now
  pub leaves : (edge_at h.edges.now edge).from ≡ u
  pub arrives : (edge_at h.edges.now edge).to ≡ v
  pub along_holds : holds n has h r.along (h.sizes.nodes + edge) ≡ true

module _ {S : Type 0} (n : ℕ) (has : S → Points) (h : House S) (says : ℕ → ℕ → ℕ → Points) (filed : List (Fact S)) where
  -- what follows if a is narrower than b
  pub record Narrowing (a b : Course) : Type 0 where
    -- tests and bodies that are met stay met
    pub tests : (t c i : ℕ) → test_met_lem n has h b t c i ≡ true → test_met_lem n has h a t c i ≡ true
    pub bodies : (t c : ℕ) (body : Body) → body_met_lem n has h b t c body ≡ true → body_met_lem n has h a t c body ≡ true
    -- x does not fall
    pub counts : (r : Rule) (t v : ℕ) → qualified n has h b r t v ≤ qualified n has h a r t v
    -- each rule grants no more, and so do all together
    pub rules : (r : Rule) (t c l p : ℕ) → rule_grants n has h says a t c l p r ≡ true → rule_grants n has h says b t c l p r ≡ true
    pub grants : Within (granted n has h says filed a) (granted n has h says filed b)

  -- the loosest course that fits: it is a course of the house, and contains every other one that fits
  pub record LoosestFitting (a : Course) : Type 0 where
    pub fits : Fits n has h says filed a
    pub of_house : OfHouse h.sizes n a
    pub contains : (b : Course) → Fits n has h says filed b → OfHouse h.sizes n b → Within b a

  -- the laws of one house of at most 200 nodes, one list of facts and one book.
  pub record Laws : Type 0 where
    -- what a list of cells means is a course of the house
    pub of_cells : (cells : List S) → OfHouse h.sizes n (course_of h.sizes has cells)
    -- a condition that names earlier ones alone says what its kind makes of what these say
    pub by_kind : (c i : ℕ) (k : Condition) → i < length h.conditions.now → k ≡ slice_index_or h.conditions.now i k → (names_first k.kind ≡ true → k.a < i) → (names_second k.kind ≡ true → k.b < i) →
        said n has h c (length h.conditions.now) i ≡ verdict n has h c (said n has h c (length h.conditions.now)) k
    -- a node is eligible exactly when an edge makes it so
    pub eligible_means : (r : Rule) (u v : ℕ) → Iff (eligible n has h r u v ≡ true) (Feeds n has h r u v)
    -- a cell is untouched exactly when no fact covers it and no rule for its label acts on it
    pub untouched_means : (t c l : ℕ) → Iff (touched n has h filed t c l ≡ false)
        (Every filed (λ f. covers t c l f ≡ false) × Every h.rules.now (λ r. r.target ≡ l → c < h.sizes.nodes → r.delay ≤ t → holds n has h r.onto c ≢ true))
    -- y is at most the number of nodes, so that a book is asked within its limit
    pub few : (r : Rule) (v : ℕ) → eligibles n has h r v ≤ h.sizes.nodes
    pub in_limit : (r : Rule) (v : ℕ) → eligibles n has h r v ≤ 200
    -- x is at most y
    pub at_most : (a : Course) (r : Rule) (t v : ℕ) → qualified n has h a r t v ≤ eligibles n has h r v
    -- under an empty body all that are eligible qualify, whatever the hour and the course
    pub all_qualify : (a : Course) (r : Rule) (t v : ℕ) → r.body.count ≡ 0 → qualified n has h a r t v ≡ eligibles n has h r v
    -- on a narrower course more is met and less is granted
    pub narrows : (a b : Course) → Within a b → Narrowing a b
    -- what is granted at an hour hangs on the hours up to it alone, and there too it only narrows
    pub looks_back : (a b : Course) (t : ℕ) → SameUpto t a b → (c l : ℕ) → Same (granted n has h says filed a t c l) (granted n has h says filed b t c l)
    pub narrows_back : (a b : Course) (t : ℕ) → WithinUpto t a b → (c l : ℕ) → Among (granted n has h says filed a t c l) (granted n has h says filed b t c l)
    -- the function is the joint step, and on courses of the house the only one
    pub joint : (a : Course) → JointStep n has h says filed a (step n has h says filed a)
    pub joint_only : (a b : Course) → OfHouse h.sizes n a → OfHouse h.sizes n b →
        JointStep n has h says filed a b → SameCourse b (step n has h says filed a)
    -- a course of the house fits exactly when the joint step leaves its points as they are
    pub rests : (a : Course) → OfHouse h.sizes n a → Iff (Fits n has h says filed a) (SameCourse (step n has h says filed a) a)
    -- a fitting course of the house lies within the joint step of every course that it lies within
    pub stays : (a b : Course) → Fits n has h says filed a → OfHouse h.sizes n a → Within a b → Within a (step n has h says filed b)
    -- so it lies within all that joint steps make of the loosest course
    pub below : (a : Course) (m : ℕ) → Fits n has h says filed a → OfHouse h.sizes n a → Within a (steps n has h says filed m)
    -- some number of joint steps from the loosest course leads to the loosest course that fits
    pub arrives : (m : ℕ) × LoosestFitting (steps n has h says filed m)
    -- and wherever one more step changes nothing it has been reached
    pub stops : (m : ℕ) → SameCourse (steps n has h says filed (suc m)) (steps n has h says filed m) → LoosestFitting (steps n has h says filed m)
    -- the course without any point fits, so that what matters is whether one fits that has a point in each cell
    pub nothing_fits : Fits n has h says filed (λ t c l p. false)
    -- if there is one, the loosest is such a one
    pub void_free : (a b : Course) → LoosestFitting a → Fits n has h says filed b → OfHouse h.sizes n b → VoidFree h.sizes b → VoidFree h.sizes a
    -- there is but one loosest course that fits
    pub one : (a b : Course) → LoosestFitting a → LoosestFitting b → SameCourse a b
