use Rattle.std.proofs.Common.{Some, sym, ap, ◌∙◌, take, arith, refl, rules}
use Rattle.layers.specs.Numberings.{numbering}
use Rattle.layers.proofs.Permuting.{front, front_holds, front_pairs, Found, holds_positions, again_look, again_listed, listed_true, listed_false}
use Rattle.layers.proofs.permutation.Permutation.from_list.Goals as goal

pub returns-in_err-list : goal.returns-in_err-list
returns-in_err-list c =
    let h = c.in_err-list.ensures.lookup in
    ap numbering c.from_residual.ensures ∙ sym (listed_false c.args.size c.args.list.now _ _ (λ l. let n = l.long in grind arith))

pub returns-in_err-there : goal.returns-in_err-there
returns-in_err-there c =
    let n = c.args.size in
    let xs = c.args.list.now in
    let h = c.in_ok-list.ensures.lookup.0 in
    let f = front n xs c.in_ok-list.list.now h.1 (grind arith) in
    ap numbering c.from_residual-in_err-there.ensures ∙ sym (listed_false n xs _ _ (λ l. c.in_err-there.ensures (front_holds f l.all)))

pub returns-in_err-back : goal.returns-in_err-back
returns-in_err-back c =
    let n = c.args.size in
    let xs = c.args.list.now in
    let ps = c.in_ok-there.there in
    let h = c.in_ok-list.ensures.lookup.0 in
    let f = front n xs c.in_ok-list.list.now h.1 (grind arith) in
    let g = front n ps (take n ps) (search rules) refl in
    let there = front_pairs f ps c.in_ok-there.ensures in
    ap numbering c.from_residual-in_err-back.ensures ∙ sym (listed_false n xs _ _ (λ l. c.in_err-back.ensures (front_holds g (holds_positions n xs ps there l))))

pub returns : goal.returns
returns c =
    let n = c.args.size in
    let xs = c.args.list.now in
    let ps = c.in_ok-there.there in
    let h = c.in_ok-list.ensures.lookup.0 in
    let f = front n xs c.in_ok-list.list.now h.1 (grind arith) in
    let g = front n ps (take n ps) (search rules) refl in
    let found : Found n xs ps c.in_ok-back.back = record { there = front_pairs f ps c.in_ok-there.ensures; back = front_pairs g c.in_ok-back.back c.in_ok-back.ensures } in
    ap (λ p. Some (n, p)) (again_look found) ∙ sym (listed_true n xs _ _ (again_listed found h.1))
