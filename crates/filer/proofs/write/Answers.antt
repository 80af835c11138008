-- The pieces, one after the other.
use mathlib.Core.Path.{◌≡◌}
use mathlib.Core.List.{List}
use Prim.Native.Nat.{ℕ, ◌+◌, ◌*◌, ◌≤◌}
use lib.ListN.{length, take, drop}
use lib.Seq.{length-take-le}
use Rattle.writing.proofs.Outputs.{entries_length}
use Rattle.filer.proofs.Wholes.{numbers, parts_at, total, short, pieces_written}
use native.Mathlib.Omega.{arith}
use Rattle.filer.proofs.write.Goals as goal

-- eight bytes are copied
eight : (s : List ℕ) → 8 ≤ length s → length (take 8 (drop 0 s)) ≡ 8
eight s h = length-take-le 8 s h

pub number_at-count-requires : goal.number_at-count-requires
number_at-count-requires c = omega (arith, total _ c.requires.0 _ c.requires.1)

pub slice_bounds-copy-end : goal.slice_bounds-copy-end
slice_bounds-copy-end c = omega (arith, total _ c.requires.0 _ c.requires.1)

pub copy-header-requires : goal.copy-header-requires
copy-header-requires c = let t = total _ c.requires.0 _ c.requires.1 in
    let h = length-take-le 8 c.args.image.now (omega arith) in
    omega arith

pub overflow_mul-order : goal.overflow_mul-order
overflow_mul-order c = omega (arith, total _ c.requires.0 _ c.requires.1, short _ c.requires.0 _ c.requires.1)

pub overflow_add-order : goal.overflow_add-order
overflow_add-order c = omega (arith, total _ c.requires.0 _ c.requires.1, short _ c.requires.0 _ c.requires.1)

pub entries-place-requires : goal.entries-place-requires
entries-place-requires c = let t = total _ c.requires.0 _ c.requires.1 in
    let h = eight c.args.image.now (omega arith) in record {
      parts_at = parts_at _ c.requires.0 _ c.requires.1;
      numbers = numbers _ c.requires.0 _ c.requires.1;
      rules_in_bounds = omega arith;
      order_bound = omega (arith, t, short _ c.requires.0 _ c.requires.1);
    }

pub entry-directory-requires : goal.entry-directory-requires
entry-directory-requires c = let t = total _ c.requires.0 _ c.requires.1 in
    let few = short _ c.requires.0 _ c.requires.1 in
    let h = eight c.args.image.now (omega arith) in
    let d = entries_length c.args.image.now c.args.order.now (12 + 4 * length c.args.order.now) in record {
      from_bound = omega arith;
      size_bound = omega arith;
      at_in_bounds = omega arith;
    }

pub parts-next-requires : goal.parts-next-requires
parts-next-requires c = let t = total _ c.requires.0 _ c.requires.1 in
    let h = eight c.args.image.now (omega arith) in
    let d = entries_length c.args.image.now c.args.order.now (12 + 4 * length c.args.order.now) in record {
      parts_at = parts_at _ c.requires.0 _ c.requires.1;
      numbers = numbers _ c.requires.0 _ c.requires.1;
      order_in_bounds = omega arith;
    }

pub write-requires : goal.write-requires
write-requires c = let t = total _ c.requires.0 _ c.requires.1 in
    let h = eight c.args.image.now (omega arith) in
    let d = entries_length c.args.image.now c.args.order.now (12 + 4 * length c.args.order.now) in (
      c.requires.0,
      c.number_at-count.ensures,
      c.requires.1,
      omega arith,
    )

pub returns : goal.returns
returns c = pieces_written _ c.requires.0 _ c.requires.1 (λ i. omega (arith, c.type_inv.image i)) _ c.number_at-count.ensures _ _ _ _ _ _ _ _ _ _ _ c.copy-header.ensures c.entries-place.ensures.written c.entries-place.ensures.from_value c.entry-directory.ensures c.parts-next.ensures c.write.ensures
