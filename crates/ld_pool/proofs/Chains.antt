-- Chains of blocks: cut in two, joined, and left as they are.
use Rattle.std.proofs.Common.{◌≡◌, ℕ, zero, suc, ◌+◌, ◌*◌, ◌-◌, ◌<◌, ◌≤◌, List, min, get_or, length, sym, ◌∙◌, subst, refl, arith}
use Rattle.ld_pool.specs.Inside.Blocks.{AreLinks, AreWithin, IsChain, behind}

-- what a chain says of its first block, and of the others
pub chain-first : (next : List ℕ) (owner rank : ℕ → ℕ) (whose count block : ℕ) → IsChain next owner rank whose (suc count) block → (owner block ≡ whose) × (rank block ≡ count) × IsChain next owner rank whose count (get_or next block 0)
unfolding IsChain
chain-first next owner rank whose count block chain = chain

pub chain-same : (next more : List ℕ) (owner rank owner' rank' : ℕ → ℕ) (whose whose' count block : ℕ) → ((b : ℕ) → owner b ≡ whose → rank b < count → (get_or more b 0 ≡ get_or next b 0) × (owner' b ≡ whose') × (rank' b ≡ rank b)) → IsChain next owner rank whose count block → IsChain more owner' rank' whose' count block
unfolding IsChain
chain-same next more owner rank owner' rank' whose whose' zero block same chain = tt
chain-same next more owner rank owner' rank' whose whose' (suc count) block same chain =
    let below : rank block < suc count = omega (arith, chain.1) in
    let here = same block chain.0 below in
    let rest = chain-same next more owner rank owner' rank' whose whose' count (get_or next block 0) (λ b o r. same b o (omega (arith, r))) chain.2 in
    (here.1, here.2 ∙ chain.1, subst (λ (b : ℕ). IsChain more owner' rank' whose' count b) (sym here.0) rest)

-- the first blocks of a chain, given to another owner
pub chain-front : (next : List ℕ) (owner rank owner' rank' : ℕ → ℕ) (whose whose' more count total block : ℕ) → total ≡ count + more → ((b : ℕ) → owner b ≡ whose → more ≤ rank b → (owner' b ≡ whose') × (rank' b + more ≡ rank b)) → IsChain next owner rank whose total block → IsChain next owner' rank' whose' count block
unfolding IsChain
chain-front next owner rank owner' rank' whose whose' more zero total block e marks chain = tt
chain-front next owner rank owner' rank' whose whose' more (suc count) zero block e marks chain = absurd (omega (arith, e))
chain-front next owner rank owner' rank' whose whose' more (suc count) (suc total) block e marks chain =
    let above : more ≤ rank block = omega (arith, e, chain.1) in
    let here = marks block chain.0 above in
    (here.0, omega (arith, here.1, chain.1, e), chain-front next owner rank owner' rank' whose whose' more count total (get_or next block 0) (omega (arith, e)) marks chain.2)

-- the blocks of a chain behind so many
pub chain-back : (next : List ℕ) (owner rank : ℕ → ℕ) (whose more count total block : ℕ) → total ≡ count + more → IsChain next owner rank whose total block → IsChain next owner rank whose more (behind next count block)
unfolding IsChain behind
chain-back next owner rank whose more zero total block e chain = let e' : total ≡ more = omega (arith, e) in subst (λ (n : ℕ). IsChain next owner rank whose n block) e' chain
chain-back next owner rank whose more (suc count) zero block e chain = absurd (omega (arith, e))
chain-back next owner rank whose more (suc count) (suc total) block e chain = chain-back next owner rank whose more count total (get_or next block 0) (omega (arith, e)) chain.2

-- a chain whose last block is linked to another chain
pub chain-join : (next more : List ℕ) (owner rank owner' rank' : ℕ → ℕ) (whose whose' count free total block head : ℕ) → total ≡ suc count + free → (get_or more (behind next count block) 0 ≡ head) → ((b : ℕ) → owner b ≡ whose → 0 < rank b → get_or more b 0 ≡ get_or next b 0) → ((b : ℕ) → owner b ≡ whose → (owner' b ≡ whose') × (rank' b ≡ rank b + free)) → IsChain more owner' rank' whose' free head → IsChain next owner rank whose (suc count) block → IsChain more owner' rank' whose' total block
unfolding IsChain behind
chain-join next more owner rank owner' rank' whose whose' count free zero block head e link stay marks end chain = absurd (omega (arith, e))
chain-join next more owner rank owner' rank' whose whose' zero free (suc total) block head e link stay marks end chain =
    let here = marks block chain.0 in
    let e' : free ≡ total = omega (arith, e) in
    let rest : IsChain more owner' rank' whose' total head = subst (λ (n : ℕ). IsChain more owner' rank' whose' n head) e' end in
    (here.0, omega (arith, here.1, chain.1, e), subst (λ (b : ℕ). IsChain more owner' rank' whose' total b) (sym link) rest)
chain-join next more owner rank owner' rank' whose whose' (suc count) free (suc total) block head e link stay marks end chain =
    let here = marks block chain.0 in
    let same = stay block chain.0 (omega (arith, chain.1)) in
    let rest = chain-join next more owner rank owner' rank' whose whose' count free total (get_or next block 0) head (omega (arith, e)) link stay marks end chain.2 in
    (here.0, omega (arith, here.1, chain.1, e), subst (λ (b : ℕ). IsChain more owner' rank' whose' total b) (sym same) rest)

-- a block behind others lies in the table
pub behind-within : (next : List ℕ) → AreLinks next → (count block : ℕ) → block < length next → behind next count block < length next
unfolding behind
behind-within next links zero block h = h
behind-within next links (suc count) block h = behind-within next links count (get_or next block 0) (links.within block h)

pub behind-more : (next : List ℕ) (count block : ℕ) → behind next (suc count) block ≡ behind next count (get_or next block 0)
unfolding behind
behind-more next count block = refl

pub behind-none : (next : List ℕ) (block : ℕ) → behind next 0 block ≡ block
unfolding behind
behind-none next block = refl

-- blocks that are linked upwards are a chain up to the last one
pub chain-up : (next : List ℕ) (whose : ℕ) → ((k : ℕ) → k < length next → get_or next k 0 ≡ min (k + 1) (length next - 1)) → (count block : ℕ) → (0 < count → block + count ≡ length next) → IsChain next (λ _. whose) (λ b. length next - (b + 1)) whose count block
unfolding IsChain
chain-up next whose up zero block e = tt
chain-up next whose up (suc count) block e =
    let here : block + suc count ≡ length next = e (omega arith) in
    let link = up block (omega (arith, here)) in
    (refl, omega (arith, here), chain-up next whose up count (get_or next block 0) (λ some. omega (arith, link, here, some)))

pub chain-none : (next : List ℕ) (owner rank : ℕ → ℕ) (whose block : ℕ) → IsChain next owner rank whose 0 block
unfolding IsChain
chain-none next owner rank whose block = tt

-- blocks that lie within the first items
pub within-none : (next : List ℕ) (size block : ℕ) → AreWithin next size 0 block
unfolding AreWithin
within-none next size block = tt

pub within-first : (next : List ℕ) (size count block : ℕ) → AreWithin next size (suc count) block → (256 * block + 256 ≤ size) × AreWithin next size count (get_or next block 0)
unfolding AreWithin
within-first next size count block within = within

pub within-both : (next : List ℕ) (size count block : ℕ) → 256 * block + 256 ≤ size → AreWithin next size count (get_or next block 0) → AreWithin next size (suc count) block
unfolding AreWithin
within-both next size count block here rest = (here, rest)

pub within-longer : (next : List ℕ) (size more count block : ℕ) → size ≤ more → AreWithin next size count block → AreWithin next more count block
unfolding AreWithin
within-longer next size more zero block h within = tt
within-longer next size more (suc count) block h within = (omega (arith, within.0, h), within-longer next size more count (get_or next block 0) h within.1)

pub within-front : (next : List ℕ) (size fewer count block : ℕ) → fewer ≤ count → AreWithin next size count block → AreWithin next size fewer block
unfolding AreWithin
within-front next size zero count block h within = tt
within-front next size (suc fewer) zero block h within = absurd (omega (arith, h))
within-front next size (suc fewer) (suc count) block h within = (within.0, within-front next size fewer count (get_or next block 0) (omega (arith, h)) within.1)

pub within-behind : (next : List ℕ) (size count block links : ℕ) → links < count → AreWithin next size count block → 256 * behind next links block + 256 ≤ size
unfolding AreWithin behind
within-behind next size zero block links h within = absurd (omega (arith, h))
within-behind next size (suc count) block zero h within = within.0
within-behind next size (suc count) block (suc links) h within = within-behind next size count (get_or next block 0) links (omega (arith, h)) within.1

-- a chain whose links stay
pub within-same : (next more : List ℕ) (owner rank : ℕ → ℕ) (whose size count block : ℕ) → ((b : ℕ) → owner b ≡ whose → get_or more b 0 ≡ get_or next b 0) → IsChain next owner rank whose count block → AreWithin next size count block → AreWithin more size count block
unfolding AreWithin IsChain
within-same next more owner rank whose size zero block same chain within = tt
within-same next more owner rank whose size (suc count) block same chain within =
    let rest = within-same next more owner rank whose size count (get_or next block 0) same chain.2 within.1 in
    (within.0, subst (λ (b : ℕ). AreWithin more size count b) (sym (same block chain.0)) rest)
