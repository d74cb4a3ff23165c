-- Heights that rise by single references.
use Rattle.std.proofs.Common.{◌≡◌, ◌≢◌, ◌≤◌, ◌<◌, ◌+◌, ◌-◌, ◌*◌, ◌⊎◌, ℕ, zero, suc, min, List, [], ◌∷◌, Option, Some, None, length, get_or, set, inl, inr, ⊎_elim, refl, sym, ap, ◌∙◌, subst, arith, length-set, get_or-set_same, get_or-set_other}
use Rattle.std.proofs.lemmas.Bool.{cases_eq}
use Rattle.std.proofs.lemmas.List.Sums.{sum_by-set}
use Rattle.std.proofs.lemmas.Nat.{mul-add-lt}
use Rattle.std.specs.List.{Contains}
use Rattle.std.specs.Option.{option_map_or, unwrap_or}
use Rattle.ld_graph.specs.Inside.Marking.{IsListed, IsMarked, Marked, MarksMore}
use Rattle.ld_graph.specs.Inside.Rising.{AreBelow, AreRight, AreSettled, HasFloor, IsSettled, Raises, height_in, slack}
use Rattle.ld_graph.specs.Web.{Refers, Web, children_of, height, over, over_children, tallest}
use Rattle.ld_graph.proofs.Heights.{heights_are, none_is_too_low, stays_below}
use Rattle.ld_graph.proofs.Listed.{here, there}
use Rattle.ld_graph.proofs.Marked.{on, only}

-- ---- from each reference to the local equation

tallest_bound : (cap most : ℕ) (f : ℕ → ℕ) (xs : List ℕ) → ((x : ℕ) → Contains xs x → min cap (suc (f x)) ≤ most) → min cap 1 ≤ most → min cap (suc (tallest f xs)) ≤ most
tallest_bound cap most f [] h one = omega arith
tallest_bound cap most f (x ∷ xs) h one =
    let first : min cap (suc (f x)) ≤ most = h x (here x xs) in
    let rest = tallest_bound cap most f xs (λ y c. h y (there y x xs c)) one in omega arith

children_bound : (cap most : ℕ) (f : ℕ → ℕ) (children : Option (List ℕ)) → ((x : ℕ) → Contains (unwrap_or children []) x → min cap (suc (f x)) ≤ most) → (children ≢ None → min cap 1 ≤ most) → min cap (over_children f children) ≤ most
children_bound cap most f None h one = omega arith
children_bound cap most f (Some xs) h one = tallest_bound cap most f xs h (one (λ e. cc))

tallest_at : (f : ℕ → ℕ) (xs : List ℕ) (x k : ℕ) → k < length xs → get_or xs k x ≡ x → f x ≤ tallest f xs
tallest_at f [] x k lt e = absurd (omega arith)
tallest_at f (y ∷ xs) x zero lt e = let same : f y ≡ f x = ap f e in omega arith
tallest_at f (y ∷ xs) x (suc k) lt e = let rest = tallest_at f xs x k (omega arith) e in omega arith

children_at : (f : ℕ → ℕ) (children : Option (List ℕ)) (x : ℕ) → Contains (unwrap_or children []) x → suc (f x) ≤ over_children f children
children_at f None x c = absurd (omega (arith, c.1))
children_at f (Some xs) x c = let le = tallest_at f xs x c.0 c.1 c.2 in omega arith

children_floor : (f : ℕ → ℕ) (children : Option (List ℕ)) → children ≢ None → 1 ≤ over_children f children
children_floor f None some = absurd (some refl)
children_floor f (Some xs) some = omega arith

-- one more than a child that is not too high is not too high
pub each_stays_below : (web : Web) (cap : ℕ) (heights : ℕ → ℕ) (text child : ℕ) → Refers web text child → heights child ≤ height web cap child → min cap (suc (heights child)) ≤ height web cap text
each_stays_below web cap heights text child r below =
    let at = children_at (height web cap) (children_of web text) child r in
    let is = heights_are web cap text in omega arith

-- what meets the local equation is settled by each child
pub settled_over : (web : Web) (cap most : ℕ) (heights : ℕ → ℕ) (text child : ℕ) → Refers web text child → min cap (over web heights text) ≤ most → min cap (suc (heights child)) ≤ most
settled_over web cap most heights text child r le = let at = children_at heights (children_of web text) child r in omega arith

pub floor_over : (web : Web) (cap most : ℕ) (heights : ℕ → ℕ) (text : ℕ) → min cap (over web heights text) ≤ most → children_of web text ≢ None → min cap 1 ≤ most
floor_over web cap most heights text le some = let at = children_floor heights (children_of web text) some in omega arith

-- where all are settled and no mark is left, the heights are right
pub all_right : (web : Web) (cap : ℕ) (heights : List ℕ) → AreBelow web cap heights → ((text : ℕ) → HasFloor web cap heights text) → ((text child : ℕ) → Refers web text child → min cap (suc (height_in heights child)) ≤ height_in heights text) → AreRight web cap heights
all_right web cap heights below floors settled text =
    let low = none_is_too_low web cap (height_in heights) (λ one. children_bound cap (height_in heights one) (height_in heights) (children_of web one) (settled one) (floors one)) text in
    let high = below text in omega arith

-- heights that are right are settled
pub right_settled : (web : Web) (cap : ℕ) (heights : ℕ → ℕ) (text child : ℕ) → ((x : ℕ) → heights x ≡ height web cap x) → Refers web text child → min cap (suc (heights child)) ≤ heights text
right_settled web cap heights text child right r =
    let e = right child in
    let s = each_stays_below web cap heights text child r (omega arith) in
    let f = right text in omega arith

-- ---- raises

pub raises_none : (cap : ℕ) (heights : List ℕ) (marked : Marked) → Raises cap heights heights marked marked
raises_none cap heights marked = record { size = refl; marks = refl; kept = λ text m. m; each = λ text. inl refl; falls = inl (refl, refl) }

pub raises_more : (cap : ℕ) (old mid new : List ℕ) (before between after : Marked) → Raises cap old mid before between → Raises cap mid new between after → Raises cap old new before after
raises_more cap old mid new before between after g h = record {
  size = h.size ∙ g.size;
  marks = h.marks ∙ g.marks;
  kept = λ text m. h.kept text (g.kept text m);
  each = λ text. ⊎_elim
      (λ same. ⊎_elim (λ also. inl (also ∙ same)) (λ rose. inr (rose.0, let lt = rose.1 in omega arith)) (h.each text))
      (λ rose. inr (⊎_elim (λ same. (h.kept text rose.0, let lt = rose.1 in omega arith)) (λ more. (h.kept text rose.0, let lt = rose.1 in let lt2 = more.1 in omega arith)) (h.each text)))
      (g.each text);
  falls = ⊎_elim
      (λ same. ⊎_elim (λ also. inl (also.0 ∙ same.0, also.1 ∙ same.1)) (λ less. inr (let e = ap (slack cap) same.0 in omega arith)) h.falls)
      (λ less. inr (⊎_elim (λ same. let e = ap (slack cap) same.0 in omega arith) (λ more. omega arith) h.falls))
      g.falls;
}

pub raises_up : (cap : ℕ) (old new : List ℕ) (before after : Marked) → Raises cap old new before after → (text : ℕ) → height_in old text ≤ height_in new text
raises_up cap old new before after g text = ⊎_elim (λ same. omega arith) (λ rose. let lt = rose.1 in omega arith) (g.each text)

-- what is settled stays so
pub settled_still : (cap : ℕ) (old new : List ℕ) (before after : Marked) → Raises cap old new before after → (text child : ℕ) → IsSettled cap old before text child → IsSettled cap new after text child
settled_still cap old new before after g text child was =
    ⊎_elim
    (λ m. inl (g.kept child m))
    (λ le. ⊎_elim
    (λ same. inr (let up = raises_up cap old new before after g text in omega arith))
    (λ rose. inl rose.0)
    (g.each child))
    was

pub floor_still : (cap : ℕ) (old new : List ℕ) (before after : Marked) → Raises cap old new before after → (web : Web) (text : ℕ) → HasFloor web cap old text → HasFloor web cap new text
floor_still cap old new before after g web text was some = let le = was some in let up = raises_up cap old new before after g text in omega arith

-- one text rises
slack_falls : (cap : ℕ) (heights : List ℕ) (text high : ℕ) → text < length heights → height_in heights text < high → high ≤ cap → slack cap (set heights text high) < slack cap heights
slack_falls cap heights text high lt less le = let e = sum_by-set (λ h. cap - h) heights text high 0 lt in omega arith

pub raises_one : (cap : ℕ) (heights : List ℕ) (text high : ℕ) (before after : Marked) → text < length heights → height_in heights text < high → high ≤ cap → MarksMore before after → IsMarked after text → Raises cap heights (set heights text high) before after
raises_one cap heights text high before after lt less le more marked = record {
  size = length-set heights text high;
  marks = more.size;
  kept = more.kept;
  each = λ other. ⊎_elim
      (λ same. inr (subst (IsMarked after) (sym same) marked, subst (λ x. height_in heights x < height_in (set heights text high) x) (sym same) (let e = get_or-set_same heights text high 0 lt in omega arith)))
      (λ differs. inl (get_or-set_other heights text other high 0 differs))
      (cases_eq other text);
  falls = inr (slack_falls cap heights text high lt less le);
}

pub only_one : (heights : List ℕ) (text high : ℕ) → text < length heights → (other : ℕ) → (height_in (set heights text high) other ≡ height_in heights other) ⊎ (other ≡ text) × (height_in (set heights text high) other ≡ high)
only_one heights text high lt other =
    ⊎_elim
    (λ same. inr (same, ap (height_in (set heights text high)) same ∙ get_or-set_same heights text high 0 lt))
    (λ differs. inl (get_or-set_other heights text other high 0 differs))
    (cases_eq other text)

pub at_written : (heights : List ℕ) (text high : ℕ) → text < length heights → high ≤ height_in (set heights text high) text
at_written heights text high lt = let e = get_or-set_same heights text high 0 lt in omega arith

-- one text is lifted no higher than it may be
pub below_one : (web : Web) (cap : ℕ) (old new : List ℕ) (text high : ℕ) → AreBelow web cap old → high ≤ height web cap text → ((other : ℕ) → (height_in new other ≡ height_in old other) ⊎ (other ≡ text) × (height_in new other ≡ high)) → AreBelow web cap new
below_one web cap old new text high below le only other =
    ⊎_elim
    (λ same. let b = below other in omega arith)
    (λ both. subst (λ x. height_in new x ≤ height web cap x) (sym both.0) (let e : height_in new text ≡ high = ap (height_in new) (sym both.0) ∙ both.1 in omega arith))
    (only other)

-- what remains to be done
pub work_falls : (n before after list longer : ℕ) → after < before → longer ≤ n → after * suc n + longer < before * suc n + list
work_falls n before after list longer falls within =
    let h = mul-add-lt after (suc n) longer before falls (omega arith) in omega (arith, h)

-- ---- the steps

pub settled_lifted : (web : Web) (cap : ℕ) (old new : List ℕ) (before after : Marked) (text high : ℕ) → Raises cap old new before after → high ≡ min cap (over web (height_in old) text) → high ≤ height_in new text → (child : ℕ) → Refers web text child → IsSettled cap new after text child
settled_lifted web cap old new before after text high g is le child r =
    let s = settled_over web cap high (height_in old) text child r (omega arith) in
    ⊎_elim (λ same. inr (omega arith)) (λ rose. inl rose.0) (g.each child)

pub floor_lifted : (web : Web) (cap : ℕ) (old new : List ℕ) (text high : ℕ) → high ≡ min cap (over web (height_in old) text) → high ≤ height_in new text → HasFloor web cap new text
floor_lifted web cap old new text high is le some = let f = floor_over web cap high (height_in old) text (omega arith) some in omega arith

pub below_lifted : (web : Web) (cap : ℕ) (old new : List ℕ) (text high : ℕ) → AreBelow web cap old → high ≡ min cap (over web (height_in old) text) → ((other : ℕ) → (height_in new other ≡ height_in old other) ⊎ (other ≡ text) × (height_in new other ≡ high)) → AreBelow web cap new
below_lifted web cap old new text high below is only =
    below_one web cap old new text high below (let s = stays_below web cap (height_in old) text below in omega arith) only

-- the height that a found child calls for
pub above_small : (cap : ℕ) (heights : List ℕ) (child : Option ℕ) → option_map_or (λ child. min cap (suc (height_in heights child))) child 0 ≤ cap
above_small cap heights None = omega arith
above_small cap heights (Some child) = omega arith

pub above_below : (web : Web) (cap : ℕ) (heights : List ℕ) (user : ℕ) (child : Option ℕ) → AreBelow web cap heights → ((one : ℕ) → child ≡ Some one → Refers web user one) → option_map_or (λ child. min cap (suc (height_in heights child))) child 0 ≤ height web cap user
above_below web cap heights user None below refers = omega arith
above_below web cap heights user (Some child) below refers = each_stays_below web cap (height_in heights) user child (refers child refl) (below child)

pub settled_above : (cap : ℕ) (old new : List ℕ) (before after : Marked) (user child : ℕ) → Raises cap old new before after → min cap (suc (height_in old child)) ≤ height_in new user → IsSettled cap new after user child
settled_above cap old new before after user child g le = ⊎_elim (λ same. inr (omega arith)) (λ rose. inl rose.0) (g.each child)

-- a mark is taken off the text that is looked at
pub settled_taken : (cap : ℕ) (heights : List ℕ) (old new : Marked) (text : ℕ) → ((other : ℕ) → (other ≡ text → ⊥) → IsMarked old other → IsMarked new other) → (user child : ℕ) → IsSettled cap heights old user child → (child ≡ text) ⊎ IsSettled cap heights new user child
settled_taken cap heights old new text kept user child was =
    ⊎_elim (λ m. ⊎_elim inl (λ differs. inr (inl (kept child differs m))) (cases_eq child text)) (λ le. inr (inr le)) was

pub marked_up : (old new : List ℕ) (text : ℕ) → ((other : ℕ) → (other ≡ text) ⊎ (height_in new other ≡ height_in old other)) → height_in old text ≤ height_in new text → (other : ℕ) → height_in old other ≤ height_in new other
marked_up old new text others up other = ⊎_elim (λ same. subst (λ x. height_in old x ≤ height_in new x) (sym same) up) (λ e. omega arith) (others other)

-- where one text rises that is so, what is settled by the others stays so
pub settled_up : (cap : ℕ) (old new : List ℕ) (P : ℕ → Type 0) (text parent child : ℕ) → P text → ((other : ℕ) → (other ≡ text) ⊎ (height_in new other ≡ height_in old other)) → ((other : ℕ) → height_in old other ≤ height_in new other) → P child ⊎ (min cap (suc (height_in old child)) ≤ height_in new parent) ⊎ (min cap (suc (height_in old child)) ≤ height_in old parent) → P child ⊎ (min cap (suc (height_in new child)) ≤ height_in new parent)
settled_up cap old new P text parent child p others up was =
    ⊎_elim
    inl
    (λ le. ⊎_elim
    (λ same. inl (subst P (sym same) p))
    (λ e. inr (⊎_elim (λ a. omega arith) (λ b. let u = up parent in omega arith) le))
    (others child))
    was

-- lowered heights
pub lowered_below : (web : Web) (cap : ℕ) (heights less : List ℕ) (marked : ℕ → Type 0) (listed : ℕ → Type 0) → ((text : ℕ) → marked text → listed text) → ((text : ℕ) → marked text ⊎ (height_in heights text ≡ height web cap text)) → ((text : ℕ) → listed text → height_in less text ≡ 0) → ((text : ℕ) → listed text ⊎ (height_in less text ≡ height_in heights text)) → AreBelow web cap less
lowered_below web cap heights less marked listed on right low others text =
    ⊎_elim
    (λ m. let z = low text (on text m) in omega arith)
    (λ e. ⊎_elim (λ l. let z = low text l in omega arith) (λ same. omega arith) (others text))
    (right text)

-- ---- after an edit

module _ (web : Web) (cap : ℕ) (heights less lifted : List ℕ) (marked : Marked) (listed : IsListed marked.marks marked.list) (right : (text : ℕ) → IsMarked marked text ⊎ (height_in heights text ≡ height web cap text)) (lowered : (text : ℕ) → Contains marked.list text ⊎ (height_in less text ≡ height_in heights text)) (others : (text : ℕ) → Contains marked.list text ⊎ (height_in lifted text ≡ height_in less text)) where
  still_right : (text : ℕ) → Contains marked.list text ⊎ (height_in lifted text ≡ height web cap text)
  still_right text = ⊎_elim (λ m. inl (on marked.marks marked.list text listed m)) (λ e. ⊎_elim inl (λ f. ⊎_elim inl (λ g. inr (g ∙ f ∙ e)) (others text)) (lowered text)) (right text)

  pub all_floors : ((text : ℕ) → Contains marked.list text → HasFloor web cap lifted text) → (text : ℕ) → HasFloor web cap lifted text
  all_floors floors text = ⊎_elim (floors text) (λ e some. let h = heights_are web cap text in let f = floor_over web cap (height web cap text) (height web cap) text (omega arith) some in omega arith) (still_right text)

  pub all_settled : ((text child : ℕ) → Contains marked.list text → Refers web text child → Contains marked.list child ⊎ (min cap (suc (height_in lifted child)) ≤ height_in lifted text)) → AreSettled web cap lifted marked
  all_settled settled text child r =
      ⊎_elim
      (λ c. ⊎_elim (λ d. inl (only marked.marks marked.list child listed d)) inr (settled text child c r))
      (λ e. ⊎_elim (λ d. inl (only marked.marks marked.list child listed d)) (λ f. inr (let s = each_stays_below web cap (height_in lifted) text child r (omega arith) in omega arith)) (still_right child))
      (still_right text)
