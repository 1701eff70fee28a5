-- `job_format::reader::Reader::read_contents` meets its contract. Each way out is one case of `read_contents`. Assumes nothing.
use mathlib.Core.Path.{◌∙◌}
use mathlib.Core.Bool.{true}
use lib.ListN.{length}
use Rattle.std.proofs.Common.{rules}
use Rattle.job_format.specs.Format.{map_bit}
use Rattle.job_format.proofs.Fields.{handed_on_as}
use Rattle.job_format.proofs.Formats.{contents_fault_map, contents_mapped, contents_fault_matrix, contents_fault_rhs, contents_extra, contents_found}
use Rattle.job_format.proofs.reader.Reader.read_contents.Goals as goal

pub returns-in_err-read_map-clause-read : goal.returns-in_err-read_map-clause-read
returns-in_err-read_map-clause-read c =
    let a = c.args in
    handed_on_as _ c.read_map.new.self.at _ (contents_fault_map a.zeros a.self.now.file.now a.job.now.sizes a.self.now.at _ c.in_err-read_map.ensures.read) _ c.from_residual.result
    c.from_residual.ensures.1

pub returns-in_err-read_values-clause-read : goal.returns-in_err-read_values-clause-read
returns-in_err-read_values-clause-read c =
    let a = c.args in
    let file = a.self.now.file.now in
    let sizes = a.job.now.sizes in
    let bits = c.in_err-read_values.ensures.read (map_bit file) (λ k r l e. search rules) in
    handed_on_as _ c.read_values.new.self.at _
    (contents_mapped a.zeros file sizes a.self.now.at c.read_map.new.self.at _ c.in_ok-read_map.ensures.read
    (contents_fault_matrix a.zeros file sizes c.read_map.new.self.at (length a.job.now.matrix.now) a.job.now.matrix_len _ (rw c.in_ok-read_map.ensures.same_file at bits))) _
    c.from_residual-in_err-read_values.result c.from_residual-in_err-read_values.ensures.1

pub returns-in_err-read_values-2-clause-read : goal.returns-in_err-read_values-2-clause-read
returns-in_err-read_values-2-clause-read c =
    let a = c.args in
    let file = a.self.now.file.now in
    let sizes = a.job.now.sizes in
    let same = c.in_ok-read_values.ensures.same_file ∙ c.in_ok-read_map.ensures.same_file in
    let bits = c.in_ok-read_values.ensures.read (map_bit file) (λ k r l e. search rules) in
    let values = c.in_err-read_values-2.ensures.read (λ p. true) (λ k r l e. search rules) in
    handed_on_as _ c.read_values-2.new.self.at _
    (contents_mapped a.zeros file sizes a.self.now.at c.read_map.new.self.at _ c.in_ok-read_map.ensures.read
    (contents_fault_rhs a.zeros file sizes c.read_map.new.self.at (length a.job.now.matrix.now) a.job.now.matrix_len c.read_values.new.self.at c.read_values.new.out
    (rw c.in_ok-read_map.ensures.same_file at bits) (length a.job.now.rhs.now) a.job.now.rhs_len _ (rw same at values))) _
    c.from_residual-in_err-read_values-2.result c.from_residual-in_err-read_values-2.ensures.1

pub returns-then-self-file-clause-read : goal.returns-then-self-file-clause-read
returns-then-self-file-clause-read c =
    let a = c.args in
    let file = a.self.now.file.now in
    let sizes = a.job.now.sizes in
    let same = c.in_ok-read_values.ensures.same_file ∙ c.in_ok-read_map.ensures.same_file in
    let bits = c.in_ok-read_values.ensures.read (map_bit file) (λ k r l e. search rules) in
    let values = c.in_ok-read_values-2.ensures.read (λ p. true) (λ k r l e. search rules) in
    contents_mapped a.zeros file sizes a.self.now.at c.read_map.new.self.at _ c.in_ok-read_map.ensures.read
    (contents_extra a.zeros file sizes c.read_map.new.self.at (length a.job.now.matrix.now) a.job.now.matrix_len c.read_values.new.self.at c.read_values.new.out
    (rw c.in_ok-read_map.ensures.same_file at bits) (length a.job.now.rhs.now) a.job.now.rhs_len c.read_values-2.new.self.at c.read_values-2.new.out (rw same at values)
    c.if-self-file.true)

pub returns-clause-read : goal.returns-clause-read
returns-clause-read c =
    let a = c.args in
    let file = a.self.now.file.now in
    let sizes = a.job.now.sizes in
    let same = c.in_ok-read_values.ensures.same_file ∙ c.in_ok-read_map.ensures.same_file in
    let bits = c.in_ok-read_values.ensures.read (map_bit file) (λ k r l e. search rules) in
    let values = c.in_ok-read_values-2.ensures.read (λ p. true) (λ k r l e. search rules) in
    contents_mapped a.zeros file sizes a.self.now.at c.read_map.new.self.at _ c.in_ok-read_map.ensures.read
    (contents_found a.zeros file sizes c.read_map.new.self.at (length a.job.now.matrix.now) a.job.now.matrix_len c.read_values.new.self.at c.read_values.new.out
    (rw c.in_ok-read_map.ensures.same_file at bits) (length a.job.now.rhs.now) a.job.now.rhs_len c.read_values-2.new.self.at c.read_values-2.new.out (rw same at values)
    c.if-self-file.false)
