use Rattle.rb_files.specs.contracts.entry.FileIdOrd.TheImpl as files
use Rattle.rb_files.specs.contracts.entry.FolderIdOrd.TheImpl as folders
use Rattle.rb_files.proofs.WalkLaws.{follows_file, follows_folder, follows_other}
use Rattle.rb_files.proofs.finding.Search.look_in.Goals as goal

pub returns-in-Folder-clause-follows : goal.returns-in-Folder-clause-follows
returns-in-Folder-clause-follows g c = follows_folder (g.T.Tree.entries c.args.tree.now) (g.T.Tree.ignores c.args.tree.now) (g.T.Tree.listings c.args.tree.now) files.cmp-value.it folders.cmp-value.it c.args.words.now c.enter.result c.args.next c.args.entry c.in-Folder.id c.as_str.result.now c.args.self.now c.enter.new.self c.in-Folder.is c.as_str.ensures.value c.enter.ensures.entered

pub returns-in-File-clause-follows : goal.returns-in-File-clause-follows
returns-in-File-clause-follows g c = follows_file (g.T.Tree.entries c.args.tree.now) (g.T.Tree.ignores c.args.tree.now) (g.T.Tree.listings c.args.tree.now) files.cmp-value.it folders.cmp-value.it c.args.words.now c.offer.result c.args.next c.args.entry c.in-File.id c.args.self.now c.offer.new.self c.in-File.is c.offer.ensures.taken c.offer.ensures.passed

pub returns-in-Other-clause-follows : goal.returns-in-Other-clause-follows
returns-in-Other-clause-follows g c = follows_other (g.T.Tree.entries c.args.tree.now) (g.T.Tree.ignores c.args.tree.now) (g.T.Tree.listings c.args.tree.now) files.cmp-value.it folders.cmp-value.it c.args.words.now c.refuse.result c.args.next c.args.entry c.in-Other.failure c.args.self.now c.refuse.new.self c.in-Other.is c.refuse.ensures.lost c.refuse.ensures.passed
