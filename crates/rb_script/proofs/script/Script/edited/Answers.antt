use Rattle.rb_script.proofs.script.Script.edited.Goals as goal

pub returns-in-Insert : goal.returns-in-Insert
returns-in-Insert c = let settled = c.inserted.ensures c.args.outputs.now in rw c.in-Insert.is (record { exact = settled.exact; early = settled.early })

pub returns-in-Replace : goal.returns-in-Replace
returns-in-Replace c = let settled = c.replaced.ensures c.args.outputs.now in rw c.in-Replace.is (record { exact = settled.exact; early = settled.early })

pub returns-in-Remove : goal.returns-in-Remove
returns-in-Remove c = let settled = c.removed.ensures c.args.outputs.now in rw c.in-Remove.is (record { exact = settled.exact; early = settled.early })

pub returns-in-Expect : goal.returns-in-Expect
returns-in-Expect c = let settled = c.expecting.ensures c.args.outputs.now in rw c.in-Expect.is (record { exact = settled.exact; early = settled.early })

pub returns-in-Accept : goal.returns-in-Accept
returns-in-Accept c = let settled = c.accepting.ensures in rw c.in-Accept.is (record { exact = settled.exact; early = settled.early })
