-- Items that stand, and blank ones behind them up to a length.
use Rattle.std.proofs.Common.{◌≡◌, ℕ, suc, ◌+◌, ◌*◌, ◌-◌, ◌<◌, ◌≤◌, List, [], ◌∷◌, ◌++◌, replicate, get_or, length, take, drop, sym, ◌∙◌, ap, arith, length-append}
use Rattle.std.proofs.lemmas.List.{append-nil, append_assoc, drop-append-le, get_or_append_left, length-drop, length-replicate, length-take-le, replicate-append-replicate, take-append-le}
use Rattle.ld_pool.specs.Inside.Blocks.{IsWritten, whole, written}

pub whole-full : {T : Type 0} (items : List T) (blank : T) (size : ℕ) → size ≤ length items → whole items blank size ≡ items
whole-full items blank size h =
    let none : size - length items ≡ 0 = omega (arith, h) in
    ap (λ n. items ++ replicate n blank) none ∙ append-nil items

pub length-whole : {T : Type 0} (items : List T) (blank : T) (size : ℕ) → length items ≤ size → length (whole items blank size) ≡ size
length-whole items blank size h = omega (arith, h, length-append items (replicate (size - length items) blank), length-replicate (size - length items) blank)

pub longer-whole : {T : Type 0} (items : List T) (blank : T) (size : ℕ) → size ≤ length (whole items blank size)
longer-whole items blank size = omega (arith, length-append items (replicate (size - length items) blank), length-replicate (size - length items) blank)

pub whole-more : {T : Type 0} (items : List T) (blank : T) (size : ℕ) → length items < size → whole (items ++ blank ∷ []) blank size ≡ whole items blank size
whole-more items blank size h =
    let left : size - length (items ++ blank ∷ []) ≡ size - suc (length items) = omega (arith, length-append items (blank ∷ [])) in
    let more : suc (size - suc (length items)) ≡ size - length items = omega (arith, h) in
    ap (λ n. (items ++ blank ∷ []) ++ replicate n blank) left ∙ (append_assoc items (blank ∷ []) (replicate (size - suc (length items)) blank) ∙ ap (λ n. items ++ replicate n blank) more)

pub whole-whole : {T : Type 0} (items : List T) (blank : T) (len size : ℕ) → len ≤ size → whole (whole items blank len) blank size ≡ whole items blank size
whole-whole items blank len size h =
    let n = len - length items in
    let left : size - length (items ++ replicate n blank) ≡ (size - length items) - n = omega (arith, length-append items (replicate n blank), length-replicate n blank) in
    let sum : n + ((size - length items) - n) ≡ size - length items = omega (arith, h) in
    ap (λ k. (items ++ replicate n blank) ++ replicate k blank) left
    ∙ (append_assoc items (replicate n blank) (replicate ((size - length items) - n) blank) ∙ ap (λ xs. items ++ xs) (replicate-append-replicate n ((size - length items) - n) blank ∙ ap (λ k. replicate k blank) sum))

-- a write to a block that stands, and then blank items, or the other way round
pub whole-written : {T : Type 0} (items : List T) (blank : T) (block size : ℕ) (over : List T) → length over ≤ 256 → 256 * block + 256 ≤ length items → whole (written items block over) blank size ≡ written (whole items blank size) block over
whole-written items blank block size over short h =
    let start = 256 * block in
    let rest = replicate (size - length items) blank in
    let front = length-take-le start items (omega (arith, h)) in
    let back = length-drop start items in
    let same : length (written items block over) ≡ length items = omega (arith, length-append (take start items) (over ++ drop (length over) (drop start items)), length-append over (drop (length over) (drop start items)), length-drop (length over) (drop start items), front, back, h, short) in
    let first : take start (items ++ rest) ≡ take start items = take-append-le start items rest (omega (arith, h)) in
    let last : drop (length over) (drop start (items ++ rest)) ≡ drop (length over) (drop start items) ++ rest =
    ap (drop (length over)) (drop-append-le start items rest (omega (arith, h))) ∙ drop-append-le (length over) (drop start items) rest (omega (arith, back, h, short)) in
    ap (λ n. written items block over ++ replicate (size - n) blank) same
    ∙ (append_assoc (take start items) (over ++ drop (length over) (drop start items)) rest ∙ (ap (λ xs. take start items ++ xs) (append_assoc over (drop (length over) (drop start items)) rest)
    ∙ sym (ap (λ xs. xs ++ (over ++ drop (length over) (drop start (items ++ rest)))) first ∙ ap (λ xs. take start items ++ (over ++ xs)) last)))

pub is-written : {T : Type 0} (old new : List T) (blank : T) (block : ℕ) (over : List T) → length over ≤ 256 → new ≡ written (whole old blank (256 * block + 256)) block over → IsWritten old blank block over new
is-written old new blank block over short e size h =
    let grown = whole old blank (256 * block + 256) in
    let stands = longer-whole old blank (256 * block + 256) in
    ap (λ xs. whole xs blank size) e
    ∙ (whole-written grown blank block size over short stands ∙ ap (λ xs. written xs block over) (whole-whole old blank (256 * block + 256) size h))

-- items that stand
pub get_or-whole : {T : Type 0} (items : List T) (blank : T) (size k : ℕ) (d : T) → k < length items → get_or (whole items blank size) k d ≡ get_or items k d
get_or-whole items blank size k d h = get_or_append_left items (replicate (size - length items) blank) d k h

pub part-whole : {T : Type 0} (items : List T) (blank : T) (size start width : ℕ) → start + width ≤ length items → take width (drop start (whole items blank size)) ≡ take width (drop start items)
part-whole items blank size start width h =
    let rest = replicate (size - length items) blank in
    ap (take width) (drop-append-le start items rest (omega (arith, h))) ∙ take-append-le width (drop start items) rest (omega (arith, h, length-drop start items))
