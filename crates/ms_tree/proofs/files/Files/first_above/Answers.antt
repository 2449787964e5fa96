use Rattle.std.proofs.Common.{◌≡◌, ℕ, List, ◌∷◌, length, map, string_bytes, Some, sym, ap, ◌∙◌, arith, rules}
use Rattle.ms_object.specs.Trees.{FileText}
use Rattle.ms_tree.proofs.Large.{first_of, large_here, large_later}
use Rattle.ms_tree.proofs.files.Files.first_above.Goals as goal

pub loop-path-init : goal.loop-path-init
loop-path-init c =
    let given : c.into_iter-path-iterator.result ≡ c.self.inside.map.entries = search rules in
    ap (λ l. first_of c.args.most (map (λ e. let f : FileText = (string_bytes e.0, e.1) in f) l)) given ∙ ap (first_of c.args.most) c.self.view_is

pub returns-then-bytes-most : goal.returns-then-bytes-most
returns-then-bytes-most c =
    let file : FileText = (string_bytes c.in-Some._path.now, c.in-Some.text.now) in
    let rest : List FileText = map (λ e. (string_bytes e.0, e.1)) c.next.new.self in
    let here : first_of c.args.most (file ∷ rest) ≡ first_of c.args.most c.args.self.now =
    ap (λ l. first_of c.args.most (map (λ e. let f : FileText = (string_bytes e.0, e.1) in f) l)) (sym (c.in-Some.ensures).steps) ∙ c.loop-path.invariant in
    let size : c.as_slice.result.now ≡ c.in-Some.text.now = c.as_slice.ensures in
    ap (λ (l : List ℕ). Some (length l)) size ∙ sym (large_here c.args.most file rest (omega (arith, c.if-bytes-most.true, ap (λ (l : List ℕ). length l) size))) ∙ here

pub loop-path-preserved : goal.loop-path-preserved
loop-path-preserved c =
    let file : FileText = (string_bytes c.in-Some._path.now, c.in-Some.text.now) in
    let rest : List FileText = map (λ e. (string_bytes e.0, e.1)) c.next.new.self in
    let here : first_of c.args.most (file ∷ rest) ≡ first_of c.args.most c.args.self.now =
    ap (λ l. first_of c.args.most (map (λ e. let f : FileText = (string_bytes e.0, e.1) in f) l)) (sym (c.in-Some.ensures).steps) ∙ c.loop-path.invariant in
    let size : c.as_slice.result.now ≡ c.in-Some.text.now = c.as_slice.ensures in
    sym (large_later c.args.most file rest (omega (arith, c.if-bytes-most.false, ap (λ (l : List ℕ). length l) size))) ∙ here

pub returns : goal.returns
returns c = ap (λ l. first_of c.args.most (map (λ e. let f : FileText = (string_bytes e.0, e.1) in f) l)) (sym (c.in-None.ensures).steps.0) ∙ c.loop-path.invariant
