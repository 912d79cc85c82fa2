mod Examples
mod Growing
mod Telling
mod There
mod ReadBack
