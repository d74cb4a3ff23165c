-- The local equations of heights have one solution; what lies between the heights counted so far and all of them.
use Rattle.std.proofs.Common.{◌≡◌, ◌≤◌, ℕ, zero, suc, min, List, [], ◌∷◌, refl, sym, ap, ◌∙◌, arith, Option, Some, None}
use Rattle.std.specs.Option.{unwrap_or}
use Rattle.std.specs.List.{Contains}
use Rattle.ld_graph.specs.Laws.{HeightsAreOne}
use Rattle.ld_graph.specs.Web.{AreHeights, Refers, Web, children_of, height, over, over_children, tallest}
use Rattle.ld_graph.proofs.Listed.{here, there}

-- ---- what is counted up to a bound

tallest_min : (b : ℕ) (f g : ℕ → ℕ) (xs : List ℕ) → ((x : ℕ) → min b (f x) ≡ g x) → min b (tallest f xs) ≡ tallest g xs
tallest_min b f g [] h = omega arith
tallest_min b f g (x ∷ xs) h =
    let here : min b (f x) ≡ g x = h x in
    let rest : min b (tallest f xs) ≡ tallest g xs = tallest_min b f g xs h in omega arith

children_min : (b : ℕ) (f g : ℕ → ℕ) (children : Option (List ℕ)) → ((x : ℕ) → min b (f x) ≡ g x) → min (suc b) (over_children f children) ≡ over_children g children
children_min b f g None h = omega arith
children_min b f g (Some xs) h =
    let most = tallest_min b f g xs h in omega arith

over_min : (web : Web) (b : ℕ) (f g : ℕ → ℕ) (text : ℕ) → ((x : ℕ) → min b (f x) ≡ g x) → min (suc b) (over web f text) ≡ over web g text
over_min web b f g text h = children_min b f g (children_of web text) h

capped : (web : Web) (b text : ℕ) → min b (height web (suc b) text) ≡ height web b text
unfolding height
capped web zero text = omega arith
capped web (suc b) text = over_min web b (height web (suc b)) (height web b) text (capped web b)

pub heights_are : (web : Web) (cap : ℕ) → AreHeights web cap (height web cap)
unfolding height
heights_are web zero text = omega arith
heights_are web (suc b) text = sym (over_min web b (height web (suc b)) (height web b) text (capped web b))

one_up_to : (web : Web) (cap : ℕ) (heights : ℕ → ℕ) → AreHeights web cap heights → (b : ℕ) → b ≤ cap → (text : ℕ) → min b (heights text) ≡ height web b text
unfolding height
one_up_to web cap heights are zero le text = omega arith
one_up_to web cap heights are (suc b) le text =
    let at : heights text ≡ min cap (over web heights text) = are text in
    let over = over_min web b heights (height web b) text (one_up_to web cap heights are b (omega arith)) in omega arith

is_one : (web : Web) (cap : ℕ) (heights : ℕ → ℕ) → AreHeights web cap heights → (text : ℕ) → heights text ≡ height web cap text
is_one web cap heights are text =
    let at : heights text ≡ min cap (over web heights text) = are text in
    let same = one_up_to web cap heights are cap (omega arith) text in omega arith

-- ---- the children alone count

tallest_mono : (f g : ℕ → ℕ) (xs : List ℕ) → ((x : ℕ) → Contains xs x → f x ≤ g x) → tallest f xs ≤ tallest g xs
tallest_mono f g [] h = omega arith
tallest_mono f g (x ∷ xs) h =
    let first : f x ≤ g x = h x (here x xs) in
    let rest : tallest f xs ≤ tallest g xs = tallest_mono f g xs (λ y c. h y (there y x xs c)) in omega arith

children_mono : (f g : ℕ → ℕ) (children : Option (List ℕ)) → ((x : ℕ) → Contains (unwrap_or children []) x → f x ≤ g x) → over_children f children ≤ over_children g children
children_mono f g None h = omega arith
children_mono f g (Some xs) h = let most = tallest_mono f g xs h in omega arith

pub over_mono : (web : Web) (f g : ℕ → ℕ) (text : ℕ) → ((x : ℕ) → Refers web text x → f x ≤ g x) → over web f text ≤ over web g text
over_mono web f g text h = children_mono f g (children_of web text) h

pub over_same : (web : Web) (f g : ℕ → ℕ) (text : ℕ) → ((x : ℕ) → Refers web text x → f x ≡ g x) → over web f text ≡ over web g text
over_same web f g text h =
    let up = over_mono web f g text (λ x r. let e : f x ≡ g x = h x r in omega arith) in
    let down = over_mono web g f text (λ x r. let e : f x ≡ g x = h x r in omega arith) in omega arith

pub heights_are_one : HeightsAreOne
heights_are_one web cap heights = (
  is_one web cap heights,
  λ same text.
      let at : heights text ≡ height web cap text = same text in
      let is : height web cap text ≡ min cap (over web (height web cap) text) = heights_are web cap text in
      let alike = over_same web heights (height web cap) text (λ x r. same x) in omega arith,
)

-- ---- heights from below

pub at_most : (web : Web) (b text : ℕ) → height web b text ≤ b
at_most web b text = let is = capped web b text in omega arith

pub stays_below : (web : Web) (cap : ℕ) (heights : ℕ → ℕ) (text : ℕ) → ((x : ℕ) → heights x ≤ height web cap x) → min cap (over web heights text) ≤ height web cap text
stays_below web cap heights text below =
    let is = heights_are web cap text in
    let o = over_mono web heights (height web cap) text (λ x r. below x) in omega arith

low_up_to : (web : Web) (cap : ℕ) (heights : ℕ → ℕ) → ((text : ℕ) → min cap (over web heights text) ≤ heights text) → (b : ℕ) → b ≤ cap → (text : ℕ) → height web b text ≤ heights text
unfolding height
low_up_to web cap heights h zero le text = omega arith
low_up_to web cap heights h (suc b) le text =
    let step : min cap (over web heights text) ≤ heights text = h text in
    let o = over_mono web (height web b) heights text (λ x r. low_up_to web cap heights h b (omega arith) x) in
    let few : over web (height web b) text ≤ suc b = at_most web (suc b) text in omega arith

pub none_is_too_low : (web : Web) (cap : ℕ) (heights : ℕ → ℕ) → ((text : ℕ) → min cap (over web heights text) ≤ heights text) → (text : ℕ) → height web cap text ≤ heights text
none_is_too_low web cap heights h text = low_up_to web cap heights h cap (omega arith) text

-- ---- two webs in which some texts, and all that they reach, refer to the same

pub heights_agree : (before after : Web) (P : ℕ → Type 0) → ((text : ℕ) → P text → children_of before text ≡ children_of after text) → ((text next : ℕ) → P text → Refers after text next → P next) → (cap text : ℕ) → P text → height before cap text ≡ height after cap text
unfolding height
heights_agree before after P same below zero text p = refl
heights_agree before after P same below (suc b) text p =
    ap (over_children (height before b)) (same text p)
    ∙ over_same after (height before b) (height after b) text (λ x r. heights_agree before after P same below b x (below text x p r))

-- where there is no text, each has 0
pub height_past : (bound text : ℕ) → height [] bound text ≡ 0
unfolding height
height_past zero text = refl
height_past (suc bound) text = refl
