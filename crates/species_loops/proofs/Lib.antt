mod LineLaws
mod ExtremeLaws
mod HeaderLaws
mod FrontLaws
mod PathLaws
mod WeightLaws
