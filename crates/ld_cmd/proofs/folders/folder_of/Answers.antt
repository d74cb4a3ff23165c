use Rattle.std.proofs.Common.{◌≡◌, ◌≢◌, ◌<◌, ◌+◌, ℕ, suc, zero, List, length, take, drop, slice_range, get_or, Option, option_map, Some, None, refl, sym, ap, ◌∙◌, codes, length-take, arith, tests}
use Rattle.std.specs.Path.{rfind_below, rsplit_once, slash}
use Rattle.std.proofs.lemmas.Str.Pattern.{rfind_char}
use Rattle.ld_cmd.specs.Folders.{folder_in}
use Rattle.ld_cmd.proofs.folders.folder_of.Goals as goal

-- a byte is found where it stands last
rfind_below-last : (c : ℕ) (text : List ℕ) (n k : ℕ) → k < n → get_or text k 0 ≡ c → ((i : ℕ) → k < i → i < n → get_or text i 0 ≢ c) → rfind_below c text n ≡ Some k
rfind_below-last c text zero k within here behind = absurd (omega arith)
rfind_below-last c text (suc n) k within here behind =
    let below : k < n → rfind_below c text n ≡ Some k = λ less. rfind_below-last c text n k less here (λ i after before. behind i after (omega arith)) in
    let other : k < n → get_or text n 0 ≢ c = λ less. behind n less (omega arith) in
    grind (arith, tests, within, here, below, other)

rfind_below-none : (c : ℕ) (text : List ℕ) (n : ℕ) → ((i : ℕ) → i < n → get_or text i 0 ≢ c) → rfind_below c text n ≡ None
rfind_below-none c text zero lacks = refl
rfind_below-none c text (suc n) lacks =
    let below = rfind_below-none c text n (λ i before. lacks i (omega arith)) in
    let other : get_or text n 0 ≢ c = lacks n (omega arith) in
    grind (arith, tests, below, other)

-- the folder by the place of the last `/`
folder_by : Option ℕ → List ℕ → List ℕ
folder_by found word = folder_in (option_map (λ i. (take i word, drop (i + 1) word)) found)

folder_is : (found : Option ℕ) (word : List ℕ) → rfind_below slash word (length word) ≡ found → folder_in (rsplit_once slash word) ≡ folder_by found word
unfolding rsplit_once folder_by
folder_is found word is = ap (λ f. folder_by f word) is

folder_before : (word : List ℕ) (end : ℕ) → 0 < end → end < length word → folder_by (Some end) word ≡ take end word
unfolding folder_by
folder_before word end some within =
    let long : length (take end word) ≡ end = omega (arith, length-take end word) in
    grind (arith, tests, long)

folder_before-none : (word : List ℕ) → 0 < length word → folder_by (Some 0) word ≡ codes "/"
unfolding folder_by
folder_before-none word some = refl

pub returns-then-end-eq0 : goal.returns-then-end-eq0
returns-then-end-eq0 c =
    let word = c.args.word.now in
    let found = rfind_char 47 word (Some c.in-Some.end) c.in-Some.ensures.cases (omega arith) in
    let before = folder_is (Some c.in-Some.end) word (rfind_below-last 47 word (length word) c.in-Some.end found.0 found.1 found.2) in
    sym (before ∙ ap (λ end. folder_by (Some end) word) (omega (arith, c.if-end-eq0.true)) ∙ folder_before-none word (omega (arith, found.0)))

pub returns-else-end-eq0 : goal.returns-else-end-eq0
returns-else-end-eq0 c =
    let word = c.args.word.now in
    let end = c.in-Some.end in
    let found = rfind_char 47 word (Some end) c.in-Some.ensures.cases (omega arith) in
    let before = folder_is (Some end) word (rfind_below-last 47 word (length word) end found.0 found.1 found.2) ∙ folder_before word end (omega (arith, c.if-end-eq0.false)) found.0 in
    let same : slice_range word 0 end ≡ take end word = grind arith in
    c.range.ensures.value ∙ same ∙ sym before

pub returns-in-None : goal.returns-in-None
unfolding folder_by
returns-in-None c =
    let word = c.args.word.now in
    let found = rfind_char 47 word None c.in-None.ensures.cases (omega arith) in
    sym (folder_is None word (rfind_below-none 47 word (length word) found))
