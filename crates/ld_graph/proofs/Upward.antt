-- Marks that go up from the first ones.
use Rattle.std.proofs.Common.{◌≡◌, ◌<◌, ◌≤◌, ◌+◌, ◌⊎◌, ℕ, Bool, List, [], ◌∷◌, length, get_or, ⊎_elim, sym, ◌∙◌, subst, arith, below_more}
use Rattle.std.proofs.lemmas.List.{get_or_default}
use Rattle.std.proofs.lemmas.List.Sums.{count_by-le-length}
use Rattle.ld_graph.specs.Inside.Marking.{IsListed, IsMarked, Marked, MarksMore}
use Rattle.ld_graph.specs.Web.{IsWalk, Reaches, Refers, Web, end_of}
use Rattle.ld_graph.proofs.Marked.{front_same, marked_below, on, only}

-- what refers to the listed texts before a place is marked
abbrev pub IsClosedTo : Web → Marked → ℕ → Type 0
IsClosedTo web marked at = (k : ℕ) → k < at → (user : ℕ) → Refers web user (get_or marked.list k 0) → IsMarked marked user

pub closed_step : (web : Web) (old new : Marked) (at text : ℕ) → MarksMore old new → at < length old.list → text ≡ get_or old.list at 0 → IsClosedTo web old at → ((user : ℕ) → Refers web user text → IsMarked new user) → IsClosedTo web new (at + 1)
closed_step web old new at text g lt is closed here =
    below_more (λ k. (user : ℕ) → Refers web user (get_or new.list k 0) → IsMarked new user) at
    (λ k below user u. g.kept user (closed k below user (subst (λ one. Refers web user one) (front_same old new g k 0 (omega arith)) u)))
    (λ user u. here user (subst (λ one. Refers web user one) (front_same old new g at 0 lt ∙ sym is) u))

-- each marked text leads to one that was marked at first
abbrev pub LeadsToFirst : Web → Marked → Marked → Type 0
LeadsToFirst web first marked = (text : ℕ) → IsMarked marked text → Reaches web (IsMarked first) text

pub leads_step : (web : Web) (first old new : Marked) (text : ℕ) → LeadsToFirst web first old → IsMarked old text → ((other : ℕ) → IsMarked new other → IsMarked old other ⊎ Refers web other text) → LeadsToFirst web first new
leads_step web first old new text leads marked only other m =
    ⊎_elim (leads other) (λ r. let walk = leads text marked in (text ∷ walk.0, (r, walk.1), walk.2)) (only other m)

up_walk : (web : Web) (first marked : Marked) (at : ℕ) → IsListed marked.marks marked.list → length marked.list ≤ at → IsClosedTo web marked at → ((text : ℕ) → IsMarked first text → IsMarked marked text) → (text : ℕ) (walk : List ℕ) → IsWalk web text walk → IsMarked first (end_of text walk) → IsMarked marked text
up_walk web first marked at listed end closed kept text [] steps m = kept text m
up_walk web first marked at listed end closed kept text (next ∷ walk) steps m =
    let c = on marked.marks marked.list next listed (up_walk web first marked at listed end closed kept next walk steps.1 m) in
    let is : get_or marked.list c.0 0 ≡ next = get_or_default marked.list c.0 0 next c.1 ∙ c.2 in
    closed c.0 (omega (arith, c.1)) text (subst (λ one. Refers web text one) (sym is) steps.0)

pub marked_iff : (web : Web) (first marked : Marked) (at : ℕ) → MarksMore first marked → IsListed marked.marks marked.list → length marked.list ≤ at → IsClosedTo web marked at → LeadsToFirst web first marked → (text : ℕ) → (IsMarked marked text → Reaches web (IsMarked first) text) × (Reaches web (IsMarked first) text → IsMarked marked text)
marked_iff web first marked at g listed end closed leads text = (leads text, λ walk. up_walk web first marked at listed end closed g.kept text walk.0 walk.1 walk.2)

-- a listed text is marked, and within the marks
pub listed_marked : (marked : Marked) (at text : ℕ) → IsListed marked.marks marked.list → at < length marked.list → text ≡ get_or marked.list at text → IsMarked marked text × (text < length marked.marks)
listed_marked marked at text listed lt is =
    let m = only marked.marks marked.list text listed (at, lt, sym is) in
    (m, marked_below marked.marks text m)

pub listed_short : (marked : Marked) → IsListed marked.marks marked.list → length marked.list ≤ length marked.marks
listed_short marked listed =
    let e = listed.count in
    let le = count_by-le-length (λ (mark : Bool). mark) marked.marks in omega arith
