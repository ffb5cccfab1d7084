-- A fill's steps are few: each entry rises at most as many levels as the tree has buffers, and a count is below 65,536.
use Prim.Native.Nat.{ℕ, suc, ◌+◌, ◌*◌, ◌≤◌, ◌<◌}
use mathlib.Core.Path.{◌≡◌}
use mathlib.Core.List.{List, []}
use native.Mathlib.Omega.{arith}
use native.Mathlib.Decide.{dec_lt}
use native.Mathlib.Nat.{max-le}
use lib.Dec.{leb, leb→le}
use lib.ListN.{length, get_or, get_or-eq_default}
use Rattle.rules.specs.Tests.{every}
use Rattle.rules.specs.Links.{most_links, LinkNumber, InLink}
use Rattle.rules.specs.Tree.{Buffers, Tree, exhausted, buffer, merger, height_of, links_from}
use Rattle.rules.specs.Fill.{fill}
use Rattle.rules.specs.Take.{held_in}
use Rattle.rules.proofs.Numbers.{Among}
use Rattle.rules.proofs.Table.{every_at, each_link_lem}
use Rattle.rules.proofs.Weight.{fill_owed}
use Rattle.rules.proofs.LongestLaws.{owed_at_most}
use Rattle.buffers.specs.Format.{buffers_of, many}
use Rattle.buffers.specs.Post.{Inside}
use Rattle.buffers.proofs.ArrayLaws.{has, buffer_length, buffers_at, buffers_length}
use Rattle.mergers.specs.Subtree.{subtree}
use Rattle.mergers.proofs.SubtreeLaws.{everywhere}

-- how many buffers stand in a tree
unfoldable pub size : Tree → ℕ
size exhausted = 0
size (buffer n c) = 1
size (merger n c one two) = suc (size one + size two)

-- no tree is higher than it has buffers
height_few : (t : Tree) → height_of t ≤ size t
unfolding size height_of
height_few exhausted = omega arith
height_few (buffer n c) = omega arith
height_few (merger n c one two) =
    let first : height_of one ≤ size one + size two = omega (arith, height_few one) in
    let second : height_of two ≤ size one + size two = omega (arith, height_few two) in
    omega (arith, max-le {a = height_of one} {b = height_of two} {k = size one + size two} first second)

held_few : (t : Tree) (bs : Buffers) → ((n : ℕ) → length (get_or bs n []) ≤ 65535) → held_in t bs ≤ 65535 * size t
unfolding size held_in
held_few exhausted bs h = omega arith
held_few (buffer n c) bs h = omega (arith, h n)
held_few (merger n c one two) bs h = omega (arith, h n, held_few one bs h, held_few two bs h)

count_few : (ws : List ℕ) → Inside ws → (n : ℕ) → length (get_or (buffers_of ws) n []) ≤ 65535
count_few ws array n = go (dec_lt n (many ws))
  where
    go : Dec (n < many ws) → length (get_or (buffers_of ws) n []) ≤ 65535
    go (yes lt) = rw (buffers_at ws n lt) (omega (arith, buffer_length ws n (has ws n array lt)))
    go (no past) =
        let out : length (buffers_of ws) ≤ n = omega (arith, buffers_length ws) in
        let none : get_or (buffers_of ws) n [] ≡ [] = get_or-eq_default (buffers_of ws) [] out in
        rw none (omega arith)

inputs_size : (n c : ℕ) (one two : Tree) → size (merger n c one two) ≤ 200 → (size one ≤ 200) × (size two ≤ 200)
unfolding size
inputs_size n c one two p = (omega arith, omega arith)

whole_size : (last : ℕ) {i : ℕ} → LinkNumber i → last ≤ most_links → size (subtree last i 0) ≤ 200
unfolding every size subtree links_from
whole_size last {i} h high =
    leb→le (size (subtree last i 0)) 200
    (every_at (λ last. leb (size (subtree last i 0)) 200) 0 (suc most_links) (each_link_lem (λ i. every (λ last. leb (size (subtree last i 0)) 200) 0 (suc most_links)) tt h) last (omega arith) (omega arith))

part_size : (last : ℕ) {i j : ℕ} → InLink i j → i ≤ last → last ≤ most_links → size (subtree last i j) ≤ 200
part_size last {i} {j} inside low high = everywhere (λ t. size t ≤ 200) inputs_size last inside.link low (whole_size last inside.link high) inside

-- far below what 64 bits hold
pub steps_few : (key : ℕ → ℕ) (ws : List ℕ) → Inside ws → (last : ℕ) {i j : ℕ} → InLink i j → i ≤ last → last ≤ most_links → Among (subtree last i j) (many ws)
    → (fill key (subtree last i j) (buffers_of ws)).steps ≤ 4000000000
steps_few key ws array last {i} {j} inside low high among =
    let t = subtree last i j in
    let bs = buffers_of ws in
    let among' : Among t (length bs) = rw (buffers_length ws) among in
    let few = part_size last inside low high in
    omega (arith, fill_owed key t bs among', owed_at_most t 200 bs (omega (arith, height_few t)), held_few t bs (count_few ws array))
