-- What blocks hold: after a write to one, and after a list was written to a chain of them.
use Rattle.std.proofs.Common.{◌≡◌, ℕ, zero, suc, ◌+◌, ◌*◌, ◌-◌, ◌<◌, ◌≤◌, min, List, [], ◌∷◌, ◌++◌, get_or, length, take, drop, sym, ◌∙◌, ap, refl, arith, inl, inr, length-append}
use Rattle.std.proofs.lemmas.List.{append-nil, append_assoc, drop-take, drop_at, get_or-append_right, get_or_append_left, get_or-drop, get_or-take, length-drop, length-take, length-take-le, nil_from_length, take_all, take-append-drop, take-append-le, take-take, take_at}
use Rattle.std.proofs.lemmas.Bool.{cases_lt}
use Rattle.std.proofs.lemmas.Slice.{drop-put_mid, take-put_mid_below}
use Rattle.ld_pool.specs.Inside.Blocks.{AreLinks, IsChain, behind, filled, gathered, list_at, written}
use Rattle.ld_pool.specs.Runs.{blocks_for}
use Rattle.ld_pool.proofs.Chains.{behind-more}

pub blocks-more : (len : ℕ) → 0 < len → blocks_for len ≡ suc (blocks_for (len - min len 256))
blocks-more len h = omega arith

pub blocks-enough : (len : ℕ) → len ≤ 256 * blocks_for len
blocks-enough len = omega arith

-- two lists have the same items in a block
abbrev pub SameBlock : {T : Type 0} → List T → List T → ℕ → Type 0
SameBlock items more block = take 256 (drop (256 * block) more) ≡ take 256 (drop (256 * block) items)

pub same-part : {T : Type 0} (items more : List T) (block n : ℕ) → n ≤ 256 → SameBlock items more block → take n (drop (256 * block) more) ≡ take n (drop (256 * block) items)
same-part items more block n h e = sym (take-take n 256 (drop (256 * block) more) h) ∙ (ap (take n) e ∙ take-take n 256 (drop (256 * block) items) h)

pub length-written : {T : Type 0} (items : List T) (block : ℕ) (over : List T) → 256 * block + length over ≤ length items → length (written items block over) ≡ length items
length-written items block over h =
    omega (arith, length-append (take (256 * block) items) (over ++ drop (length over) (drop (256 * block) items)), length-append over (drop (length over) (drop (256 * block) items)), length-drop (length over) (drop (256 * block) items), length-drop (256 * block) items, length-take-le (256 * block) items (omega arith))

-- the block that was written to
pub written-here : {T : Type 0} (items : List T) (block n : ℕ) (over : List T) → length over ≡ n → 256 * block ≤ length items → take n (drop (256 * block) (written items block over)) ≡ over
written-here items block n over e h =
    let size = length-take-le (256 * block) items h in
    ap (take n) (drop_at (take (256 * block) items) (over ++ drop (length over) (drop (256 * block) items)) (256 * block) size) ∙ take_at over (drop (length over) (drop (256 * block) items)) n e

-- another block
pub written-other : {T : Type 0} (items : List T) (block other : ℕ) (over : List T) → (other ≡ block → ⊥) → length over ≤ 256 → 256 * block + 256 ≤ length items → SameBlock items (written items block over) other
written-other items block other over apart short h =
    elim (cases_lt other block) [
      | inl below ↦
          let cut = take-put_mid_below (256 * block) (length over) items over (256 * other + 256) (omega (arith, below)) (omega (arith, h)) in
          sym (drop-take (256 * other) 256 (written items block over)) ∙ (ap (drop (256 * other)) cut ∙ drop-take (256 * other) 256 items)
      | inr above ↦
          ap (take 256) (drop-put_mid (256 * block) (length over) items over (256 * other) (omega (arith, apart, above)) (omega (arith, h)) refl)
    ]

-- the tables that a pool's blocks and links are
pub record AreTables {T : Type 0} (items : List T) (next : List ℕ) : Type 0 where
  pub size : length items ≡ 256 * length next
  pub links : AreLinks next

pub length-first : {T : Type 0} (list : List T) → length (take (min (length list) 256) list) ≡ min (length list) 256
length-first list = length-take-le (min (length list) 256) list (omega arith)

pub tables-written : {T : Type 0} (items : List T) (next : List ℕ) (block : ℕ) (over : List T) → block < length next → length over ≤ 256 → AreTables items next → AreTables (written items block over) next
tables-written items next block over h short tables =
    record { size = length-written items block over (omega (arith, tables.size)) ∙ tables.size; links = tables.links }

pub filled-more : {T : Type 0} (items : List T) (next : List ℕ) (count block : ℕ) (list : List T) → filled items next (suc count) block list ≡ filled (written items block (take (min (length list) 256) list)) next count (get_or next block 0) (drop (min (length list) 256) list)
unfolding filled
filled-more items next count block list = refl

pub filled-none : {T : Type 0} (items : List T) (next : List ℕ) (block : ℕ) (list : List T) → filled items next 0 block list ≡ items
unfolding filled
filled-none items next block list = refl

pub tables-filled : {T : Type 0} (items : List T) (next : List ℕ) (count block : ℕ) (list : List T) → block < length next → AreTables items next → AreTables (filled items next count block list) next
unfolding filled
tables-filled items next zero block list h tables = tables
tables-filled items next (suc count) block list h tables =
    tables-filled (written items block (take (min (length list) 256) list)) next count (get_or next block 0) (drop (min (length list) 256) list) (tables.links.within block h) (tables-written items next block (take (min (length list) 256) list) h (omega (arith, length-first list)) tables)

-- a block outside the chain
pub filled-other : {T : Type 0} (items : List T) (next : List ℕ) (owner rank : ℕ → ℕ) (whose count block : ℕ) (list : List T) (other : ℕ) → block < length next → AreTables items next → (owner other ≡ whose → count ≤ rank other) → IsChain next owner rank whose count block → SameBlock items (filled items next count block list) other
unfolding filled IsChain
filled-other items next owner rank whose zero block list other h tables outside chain = refl
filled-other items next owner rank whose (suc count) block list other h tables outside chain =
    let over = take (min (length list) 256) list in
    let short : length over ≤ 256 = omega (arith, length-first list) in
    let apart : (other ≡ block → ⊥) = λ e. omega (arith, outside (ap owner e ∙ chain.0), ap rank e, chain.1) in
    let rest = filled-other (written items block over) next owner rank whose count (get_or next block 0) (drop (min (length list) 256) list) other (tables.links.within block h) (tables-written items next block over h short tables) (λ o. omega (arith, outside o)) chain.2 in
    rest ∙ written-other items block other over apart short (omega (arith, h, tables.size))

-- the chain holds the list
pub gathered-filled : {T : Type 0} (items : List T) (next : List ℕ) (owner rank : ℕ → ℕ) (whose count block : ℕ) (list : List T) (len : ℕ) → block < length next → AreTables items next → IsChain next owner rank whose count block → length list ≡ len → len ≤ 256 * count → gathered (filled items next count block list) next count block len ≡ list
unfolding filled gathered IsChain
gathered-filled items next owner rank whose zero block list len h tables chain e enough = sym (nil_from_length list (omega (arith, e, enough)))
gathered-filled items next owner rank whose (suc count) block list len h tables chain e enough =
    let over = take (min (length list) 256) list in
    let rest = drop (min (length list) 256) list in
    let size = length-first list in
    let short : length over ≤ 256 = omega (arith, size) in
    let after = tables-written items next block over h short tables in
    let other = filled-other (written items block over) next owner rank whose count (get_or next block 0) rest block (tables.links.within block h) after (λ o. omega (arith, chain.1)) chain.2 in
    let part = same-part (written items block over) (filled (written items block over) next count (get_or next block 0) rest) block (min len 256) (omega arith) other in
    let here = part ∙ written-here items block (min len 256) over (omega (arith, size, e)) (omega (arith, h, tables.size)) in
    let there = gathered-filled (written items block over) next owner rank whose count (get_or next block 0) rest (len - min len 256) (tables.links.within block h) after chain.2 (omega (arith, length-drop (min (length list) 256) list, e)) (omega (arith, enough)) in
    rw (here, there) (take-append-drop (min (length list) 256) list)

-- a list stays where its blocks and their links do
pub gathered-same : {T : Type 0} (items more : List T) (next after : List ℕ) (owner rank : ℕ → ℕ) (whose count block len : ℕ) → ((b : ℕ) → owner b ≡ whose → rank b < count → SameBlock items more b × ((0 < rank b) → get_or after b 0 ≡ get_or next b 0)) → IsChain next owner rank whose count block → gathered more after count block len ≡ gathered items next count block len
unfolding gathered IsChain
gathered-same items more next after owner rank whose zero block len same chain = refl
gathered-same items more next after owner rank whose (suc zero) block len same chain =
    let here = same block chain.0 (omega (arith, chain.1)) in
    ap (λ part. part ++ []) (same-part items more block (min len 256) (omega arith) here.0)
gathered-same items more next after owner rank whose (suc (suc count)) block len same chain =
    let here = same block chain.0 (omega (arith, chain.1)) in
    let part = same-part items more block (min len 256) (omega arith) here.0 in
    let rest = gathered-same items more next after owner rank whose (suc count) (get_or next block 0) (len - min len 256) (λ b o r. same b o (omega (arith, r))) chain.2 in
    let link = ap (λ (b : ℕ). gathered more after (suc count) b (len - min len 256)) (here.1 (omega (arith, chain.1))) in
    ap (λ xs. xs ++ gathered more after (suc count) (get_or after block 0) (len - min len 256)) part ∙ ap (λ xs. take (min len 256) (drop (256 * block) items) ++ xs) (link ∙ rest)

pub length-gathered : {T : Type 0} (items : List T) (next : List ℕ) (count block len : ℕ) → block < length next → AreTables items next → len ≤ 256 * count → length (gathered items next count block len) ≡ len
unfolding gathered
length-gathered items next zero block len h tables enough = omega (arith, enough)
length-gathered items next (suc count) block len h tables enough =
    let rest = length-gathered items next count (get_or next block 0) (len - min len 256) (tables.links.within block h) tables (omega (arith, enough)) in
    omega (arith, rest, length-append (take (min len 256) (drop (256 * block) items)) (gathered items next count (get_or next block 0) (len - min len 256)), length-take (min len 256) (drop (256 * block) items), length-drop (256 * block) items, tables.size, h)

-- the item at a place stands in the block that lies so many links behind
pub get_or-gathered : {T : Type 0} (items : List T) (next : List ℕ) (count block len i q r : ℕ) (d : T) → block < length next → AreTables items next → len ≤ 256 * count → i < len → i ≡ 256 * q + r → r < 256 → get_or (gathered items next count block len) i d ≡ get_or items (256 * behind next q block + r) d
unfolding gathered behind
get_or-gathered items next zero block len i q r d h tables enough within e small = absurd (omega (arith, enough, within))
get_or-gathered items next (suc count) block len i zero r d h tables enough within e small =
    let part = take (min len 256) (drop (256 * block) items) in
    let size : length part ≡ min len 256 = omega (arith, length-take (min len 256) (drop (256 * block) items), length-drop (256 * block) items, tables.size, h) in
    let e' : i ≡ r = omega (arith, e) in
    get_or_append_left part (gathered items next count (get_or next block 0) (len - min len 256)) d i (omega (arith, size, within, e, small))
    ∙ (get_or-take (min len 256) (drop (256 * block) items) i d (omega (arith, within, e, small))
    ∙ (get_or-drop (256 * block) items i d ∙ ap (λ n. get_or items (256 * block + n) d) e'))
get_or-gathered items next (suc count) block len i (suc q) r d h tables enough within e small =
    let part = take (min len 256) (drop (256 * block) items) in
    let size : length part ≡ min len 256 = omega (arith, length-take (min len 256) (drop (256 * block) items), length-drop (256 * block) items, tables.size, h) in
    get_or-append_right part (gathered items next count (get_or next block 0) (len - min len 256)) (min len 256) i d size (omega (arith, e))
    ∙ get_or-gathered items next count (get_or next block 0) (len - min len 256) (i - min len 256) q r d (tables.links.within block h) tables (omega (arith, enough)) (omega (arith, within, e)) (omega (arith, e, within)) small

-- the first part of a list, and the rest
pub list_at-more : {T : Type 0} (items : List T) (next : List ℕ) (block len : ℕ) → 0 < len → list_at items next block len ≡ take (min len 256) (drop (256 * block) items) ++ list_at items next (get_or next block 0) (len - min len 256)
unfolding gathered
list_at-more items next block len h = rw (blocks-more len h) refl

pub list_at-none : {T : Type 0} (items : List T) (next : List ℕ) (block : ℕ) → list_at items next block 0 ≡ []
unfolding gathered
list_at-none items next block = refl

pub length-list_at : {T : Type 0} (items : List T) (next : List ℕ) (block len : ℕ) → block < length next → AreTables items next → length (list_at items next block len) ≡ len
length-list_at items next block len h tables = length-gathered items next (blocks_for len) block len h tables (blocks-enough len)

-- a step of a loop that goes through the blocks of a list
pub list_at-step : {T : Type 0} (items : List T) (next : List ℕ) (block len size start width behind : ℕ) (before whole : List T) → 0 < len → size ≡ min len 256 → width ≡ size → start ≡ 256 * block → behind ≡ get_or next block 0 → before ++ list_at items next block len ≡ whole → (before ++ take width (drop start items)) ++ list_at items next behind (len - size) ≡ whole
list_at-step items next block len size start width behind before whole h e w s b so_far =
    rw (w, e, s, b, append_assoc, ← list_at-more items next block len h) so_far

-- a step of a loop that writes a list to blocks
pub filled-step : {T : Type 0} (items after : List T) (next : List ℕ) (block : ℕ) (list over more : List T) → 0 < length list → over ≡ take (min (length list) 256) list → more ≡ drop (min (length list) 256) list → after ≡ written items block over → filled after next (blocks_for (length more)) (get_or next block 0) more ≡ filled items next (blocks_for (length list)) block list
filled-step items after next block list over more h o m e =
    let n = min (length list) 256 in
    rw (e, o, m, length-drop n list)
    (sym (filled-more items next (blocks_for (length list - n)) block list) ∙ ap (λ k. filled items next k block list) (sym (blocks-more (length list) h)))

pub behind-step : (next : List ℕ) (block len more : ℕ) → 0 < len → more ≡ len - min len 256 → behind next (blocks_for more) (get_or next block 0) ≡ behind next (blocks_for len) block
behind-step next block len more h e =
    rw e (sym (behind-more next (blocks_for (len - min len 256)) block) ∙ ap (λ k. behind next k block) (sym (blocks-more len h)))

take-over : {T : Type 0} (xs ys : List T) (k : ℕ) → take (k + length xs) (xs ++ ys) ≡ xs ++ take k ys
take-over [] ys k = ap (λ n. take n ys) (omega arith)
take-over (x ∷ xs) ys k =
    let sum : k + suc (length xs) ≡ suc (k + length xs) = omega arith in
    ap (λ n. take n (x ∷ (xs ++ ys))) sum ∙ ap (λ zs. x ∷ zs) (take-over xs ys k)

-- the first items of a block's, and of those behind
take-both : {T : Type 0} (n : ℕ) (xs ys : List T) → take n (xs ++ ys) ≡ take n xs ++ take (n - length xs) ys
take-both n xs ys =
    elim (cases_lt n (length xs)) [
      | inl below ↦
          let none : n - length xs ≡ 0 = omega (arith, below) in
          take-append-le n xs ys (omega (arith, below)) ∙ (sym (append-nil (take n xs)) ∙ ap (λ k. take n xs ++ take k ys) (sym none))
      | inr past ↦
          let sum : (n - length xs) + length xs ≡ n = omega (arith, past) in
          ap (λ k. take k (xs ++ ys)) (sym sum) ∙ (take-over xs ys (n - length xs) ∙ ap (λ zs. zs ++ take (n - length xs) ys) (sym (take_all n xs past)))
    ]

take-part : {T : Type 0} (n len m : ℕ) (part rest : List T) → length part ≡ m → m ≡ min len 256 → n ≤ len → take n (part ++ rest) ≡ take (min n 256) part ++ take (n - min n 256) rest
take-part n len m part rest size e less =
    take-both n part rest ∙ elim (cases_lt n 256) [
      | inl below ↦
          let a : n ≡ min n 256 = omega (arith, below) in
          let b : n - length part ≡ n - min n 256 = omega (arith, size, e, less, below) in
          ap (λ k. take k part ++ take (n - length part) rest) a ∙ ap (λ k. take (min n 256) part ++ take k rest) b
      | inr past ↦
          let a : min n 256 ≡ 256 = omega (arith, past) in
          let full : length part ≡ 256 = omega (arith, size, e, less, past) in
          let b : n - length part ≡ n - min n 256 = omega (arith, full, a) in
          ap (λ zs. zs ++ take (n - length part) rest) (take_all n part (omega (arith, full, past)) ∙ (sym (take_all 256 part (omega (arith, full))) ∙ ap (λ k. take k part) (sym a)))
          ∙ ap (λ k. take (min n 256) part ++ take k rest) b
    ]

-- the first items of a list
pub take-gathered : {T : Type 0} (items : List T) (next : List ℕ) (count block len fewer : ℕ) → block < length next → AreTables items next → len ≤ 256 * count → fewer ≤ len → take fewer (gathered items next count block len) ≡ list_at items next block fewer
unfolding gathered
take-gathered items next zero block len fewer h tables enough less =
    let none : fewer ≡ 0 = omega (arith, enough, less) in
    rw none refl
take-gathered items next (suc count) block len zero h tables enough less = sym (list_at-none items next block)
take-gathered items next (suc count) block len (suc fewer) h tables enough less =
    let n = suc fewer in
    let behind = get_or next block 0 in
    let part = take (min len 256) (drop (256 * block) items) in
    let size : length part ≡ min len 256 = omega (arith, length-take (min len 256) (drop (256 * block) items), length-drop (256 * block) items, tables.size, h) in
    let rest = take-gathered items next count behind (len - min len 256) (n - min n 256) (tables.links.within block h) tables (omega (arith, enough)) (omega (arith, less)) in
    let front : take (min n 256) part ≡ take (min n 256) (drop (256 * block) items) = take-take (min n 256) (min len 256) (drop (256 * block) items) (omega (arith, less)) in
    sym (list_at-more items next block n (omega arith) ∙ (ap (λ xs. xs ++ list_at items next behind (n - min n 256)) (sym front) ∙ (ap (λ xs. take (min n 256) part ++ xs) (sym rest) ∙ sym (take-part n len (min len 256) part (gathered items next count behind (len - min len 256)) size refl less))))
